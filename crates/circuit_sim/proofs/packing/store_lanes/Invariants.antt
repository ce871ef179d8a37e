use Rattle.std.proofs.Common.{length}
use Rattle.circuit_sim.specs.Rows.{AreRows, contents}
use Rattle.circuit_sim.proofs.LaneLemmas.{HoldFirstInLanes}
use Rattle.circuit_sim.proofs.packing.store_lanes.Given as goal

abbrev pub invariant-loop-number : goal.invariant-loop-number
invariant-loop-number l = record {
  rows : HoldFirstInLanes l.number (contents l.rows) l.vectors;
  fit : AreRows (length l.vectors) l.rows;
}
