use Rattle.std.proofs.Common.{◌∙◌, ℕ, subst, arith}
use Rattle.circuit_sim.specs.Rows.{AreRows}
use Rattle.circuit_sim.proofs.RowLemmas.{joined_fits, lanes_changed, part_fits, parts_changed}
use Rattle.circuit_sim.proofs.rows.run_by_pair.Goals as goal

pub returns-clause-run : goal.returns-clause-run
returns-clause-run c =
    let gates = c.args.circuit.now.gates in
    let cut = c.split_at_mut-front.ensures in
    record {
      rows = parts_changed _ c.args.rows.now _ _ c.store_lanes.new.rows c.store_lanes-2.new.rows cut.value
          (lanes_changed gates _ c.store_lanes.new.rows c.load_lanes.new.vectors c.run_pair.new.first c.store_lanes.auto.rows
          (omega (arith, cut.front_len)) c.load_lanes.ensures.rows c.run_pair.ensures.first c.store_lanes.ensures.rows)
          (lanes_changed gates _ c.store_lanes-2.new.rows c.load_lanes-2.new.vectors c.run_pair.new.second c.store_lanes-2.auto.rows
          (omega (arith, cut.back_len)) c.load_lanes-2.ensures.rows c.run_pair.ensures.second c.store_lanes-2.ensures.rows);
      fit = joined_fits c.args.circuit.now.lines c.store_lanes.new.rows c.store_lanes-2.new.rows
          (subst (λ (n : ℕ). AreRows n c.store_lanes.new.rows) (c.run_pair.auto.first ∙ c.load_lanes.auto.vectors ∙ c.requires.lines.0)
          c.store_lanes.ensures.fit)
          (subst (λ (n : ℕ). AreRows n c.store_lanes-2.new.rows) (c.run_pair.auto.second ∙ c.load_lanes-2.auto.vectors ∙ c.requires.lines.1)
          c.store_lanes-2.ensures.fit);
    }

pub returns-clause-vectors : goal.returns-clause-vectors
returns-clause-vectors c = (c.run_pair.ensures.first.vectors, c.run_pair.ensures.second.vectors)

pub load_lanes-requires-clause-fit : goal.load_lanes-requires-clause-fit
load_lanes-requires-clause-fit c = (part_fits _ _ _ _ _ c.requires.fit c.split_at_mut-front.ensures.value c.requires.planes).0

pub load_lanes-requires-2-clause-fit : goal.load_lanes-requires-2-clause-fit
load_lanes-requires-2-clause-fit c =
    (part_fits _ _ _ _ _ c.requires.fit c.split_at_mut-front.ensures.value (c.load_lanes.auto.planes ∙ c.requires.planes)).1

pub store_lanes-requires-clause-fit : goal.store_lanes-requires-clause-fit
store_lanes-requires-clause-fit c =
    (part_fits _ _ _ _ _ c.requires.fit c.split_at_mut-front.ensures.value (c.load_lanes-2.auto.planes ∙ c.load_lanes.auto.planes ∙ c.requires.planes)).0

pub store_lanes-requires-2-clause-fit : goal.store_lanes-requires-2-clause-fit
store_lanes-requires-2-clause-fit c =
    (part_fits _ _ _ _ _ c.requires.fit c.split_at_mut-front.ensures.value
    (c.store_lanes.auto.planes ∙ c.load_lanes-2.auto.planes ∙ c.load_lanes.auto.planes ∙ c.requires.planes)).1
