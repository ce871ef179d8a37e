use Rattle.std.proofs.Common.{◌∙◌, ℕ, subst}
use Rattle.circuit_sim.specs.Rows.{AreRows}
use Rattle.circuit_sim.proofs.RowLemmas.{planes_changed}
use Rattle.circuit_sim.proofs.rows.run_by_planes.Goals as goal

pub returns : goal.returns
returns c = record {
  rows = planes_changed c.args.circuit.now.gates c.args.rows.now c.store.new.rows c.load.new.planes c.run_planes.new.planes c.store.auto.rows
      c.requires.few c.load.ensures c.run_planes.ensures c.store.ensures.rows;
  fit = subst (λ (n : ℕ). AreRows n c.store.new.rows) (c.run_planes.auto.planes ∙ c.load.auto.planes ∙ c.requires.planes) c.store.ensures.fit;
}
