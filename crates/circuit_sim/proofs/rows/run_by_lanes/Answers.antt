use Rattle.std.proofs.Common.{◌∙◌, ℕ, subst}
use Rattle.circuit_sim.specs.Rows.{AreRows}
use Rattle.circuit_sim.proofs.RowLemmas.{lanes_changed}
use Rattle.circuit_sim.proofs.rows.run_by_lanes.Goals as goal

pub returns-clause-run : goal.returns-clause-run
returns-clause-run c = record {
  rows = lanes_changed c.args.circuit.now.gates c.args.rows.now c.store_lanes.new.rows c.load_lanes.new.vectors c.run_lanes.new.planes
      c.store_lanes.auto.rows c.requires.few c.load_lanes.ensures.rows c.run_lanes.ensures c.store_lanes.ensures.rows;
  fit = subst (λ (n : ℕ). AreRows n c.store_lanes.new.rows) (c.run_lanes.auto.planes ∙ c.load_lanes.auto.vectors ∙ c.requires.lines)
      c.store_lanes.ensures.fit;
}
