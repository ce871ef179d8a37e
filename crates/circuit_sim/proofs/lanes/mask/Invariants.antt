use Rattle.std.proofs.Common.{take}
use Rattle.circuit_sim.specs.inside.Masks.{IsMaskInLanes}
use Rattle.circuit_sim.proofs.lanes.mask.Given as goal

abbrev pub invariant-loop-control : goal.invariant-loop-control
invariant-loop-control l = IsMaskInLanes l.planes (take l.control-index l.controls) l.mask
