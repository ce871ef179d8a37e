use Rattle.circuit_sim.proofs.LaneLemmas.{IsUnderwayInLanes}
use Rattle.circuit_sim.proofs.lanes.run_lanes.Given as goal

abbrev pub invariant-loop-gate : goal.invariant-loop-gate
invariant-loop-gate l = IsUnderwayInLanes l.gate-items l.gate-index l.fn.planes l.planes
