use Rattle.std.proofs.Common.{◌≡◌, drop}
use Rattle.mct_circuit.specs.Gates.{line_map}
use Rattle.mct_circuit.proofs.circuit.Circuit.apply.Given as goal

abbrev pub invariant-loop-gate : goal.invariant-loop-gate
invariant-loop-gate l = line_map (drop l.gate-index l.gate-items) l.lines ≡ line_map l.gate-items l.fn.lines
