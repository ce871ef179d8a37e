use Rattle.circuit_sim.proofs.LaneLemmas.{IsPartlyWithLane}
use Rattle.circuit_sim.proofs.packing.put_lane.Given as goal

abbrev pub invariant-loop-line : goal.invariant-loop-line
invariant-loop-line l = IsPartlyWithLane l.line l.number l.planes l.fn.vectors l.vectors
