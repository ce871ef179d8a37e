use Rattle.circuit_sim.specs.Rows.{contents}
use Rattle.circuit_sim.proofs.PackingLemmas.{HoldFirst}
use Rattle.circuit_sim.proofs.packing.load.Given as goal

abbrev pub invariant-loop-place : goal.invariant-loop-place
invariant-loop-place l = HoldFirst l.place (contents l.rows) l.planes
