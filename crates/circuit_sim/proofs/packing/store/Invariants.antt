use Rattle.std.proofs.Common.{length}
use Rattle.circuit_sim.specs.Rows.{AreRows, contents}
use Rattle.circuit_sim.proofs.PackingLemmas.{HoldFirst}
use Rattle.circuit_sim.proofs.packing.store.Given as goal

abbrev pub invariant-loop-place : goal.invariant-loop-place
invariant-loop-place l = record {
  rows : HoldFirst l.place (contents l.rows) l.planes;
  fit : AreRows (length l.planes) l.rows;
}
