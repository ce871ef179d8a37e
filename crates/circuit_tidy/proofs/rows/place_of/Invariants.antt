use Rattle.std.proofs.Common.{◌≡◌, true, drop}
use Rattle.mct_circuit.specs.Sizes.{has_line}
use Rattle.circuit_tidy.proofs.rows.place_of.Given as goal

abbrev pub invariant-loop-place : goal.invariant-loop-place
invariant-loop-place l = has_line l.line (drop l.place l.lines) ≡ true
