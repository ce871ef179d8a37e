use Rattle.circuit_sim.proofs.GateLemmas.{IsUnderway}
use Rattle.circuit_sim.proofs.planes.run_planes.Given as goal

abbrev pub invariant-loop-gate : goal.invariant-loop-gate
invariant-loop-gate l = IsUnderway l.gate-items l.gate-index l.fn.planes l.planes
