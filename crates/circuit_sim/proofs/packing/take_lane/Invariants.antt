use Rattle.std.proofs.Common.{◌≡◌, take}
use Rattle.circuit_sim.specs.Planes.{lane}
use Rattle.circuit_sim.proofs.packing.take_lane.Given as goal

abbrev pub invariant-loop-line : goal.invariant-loop-line
invariant-loop-line l = take l.line l.planes ≡ take l.line (lane l.number l.vectors)
