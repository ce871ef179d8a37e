use Rattle.circuit_sim.specs.Planes.{AreVectors}
use Rattle.circuit_sim.specs.Rows.{contents}
use Rattle.circuit_sim.proofs.LaneLemmas.{HoldFirstInLanes}
use Rattle.circuit_sim.proofs.packing.load_lanes.Given as goal

abbrev pub invariant-loop-number : goal.invariant-loop-number
invariant-loop-number l = record {
  rows : HoldFirstInLanes l.number (contents l.rows) l.vectors;
  vectors : AreVectors l.vectors;
}
