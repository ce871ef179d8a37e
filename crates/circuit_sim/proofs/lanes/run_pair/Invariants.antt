use Rattle.circuit_sim.proofs.LaneLemmas.{IsUnderwayInLanes}
use Rattle.circuit_sim.proofs.lanes.run_pair.Given as goal

abbrev pub invariant-loop-gate : goal.invariant-loop-gate
invariant-loop-gate l = record {
  first : IsUnderwayInLanes l.gate-items l.gate-index l.fn.first l.first;
  second : IsUnderwayInLanes l.gate-items l.gate-index l.fn.second l.second;
}
