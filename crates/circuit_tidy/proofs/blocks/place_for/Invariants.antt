use Rattle.std.proofs.Common.{◌≡◌, ◌++◌, take, drop}
use Rattle.circuit_tidy.specs.inside.Walking.{with_line}
use Rattle.circuit_tidy.proofs.blocks.place_for.Given as goal

abbrev pub invariant-loop-place : goal.invariant-loop-place
invariant-loop-place l = with_line l.line l.lines ≡ take l.place l.lines ++ with_line l.line (drop l.place l.lines)
