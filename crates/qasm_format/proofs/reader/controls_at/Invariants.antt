use Rattle.std.proofs.Common.{◌≡◌, take}
use Rattle.qasm_format.specs.inside.Spread.{controls_at}
use Rattle.qasm_format.proofs.reader.controls_at.Given as goal

abbrev pub invariant-loop-spot : goal.invariant-loop-spot
invariant-loop-spot l = l.controls.items ≡ controls_at (take l.spot-index l.spots) l.i
