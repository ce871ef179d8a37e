use Rattle.circuit_sim.proofs.RowLemmas.{groups_more, groups_fit}
use Rattle.circuit_sim.proofs.rows.run_groups.Goals as goal

pub groups-preserved : goal.groups-preserved
groups-preserved c = record {
  rows = groups_more _ c.groups.start c.run_group-start.result _ c.groups.rows c.run_group-start.new.rows c.groups.invariant.rows
      c.run_group-start.ensures.rows;
  fit = groups_fit _ c.groups.start c.groups.rows c.run_group-start.new.rows c.groups.invariant.fit c.run_group-start.ensures.fit;
  room = c.run_group-start.ensures.room;
}
