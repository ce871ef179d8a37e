use Rattle.std.proofs.Common.{take}
use Rattle.circuit_sim.specs.inside.Masks.{IsMask}
use Rattle.circuit_sim.proofs.planes.mask.Given as goal

abbrev pub invariant-loop-control : goal.invariant-loop-control
invariant-loop-control l = IsMask l.planes (take l.control-index l.controls) l.mask
