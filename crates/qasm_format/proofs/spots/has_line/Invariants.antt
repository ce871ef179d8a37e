use Rattle.std.proofs.Common.{◌≡◌, ◌==◌, false, take}
use Rattle.std.specs.List.{list_any}
use Rattle.qasm_format.specs.Registers.{line_at}
use Rattle.qasm_format.proofs.spots.has_line.Given as goal

abbrev pub invariant-loop-spot : goal.invariant-loop-spot
invariant-loop-spot l = list_any (λ spot. line_at l.i spot == l.line) (take l.spot-index l.spots) ≡ false
