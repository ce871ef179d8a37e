use Rattle.std.proofs.Common.{arith}
use Rattle.circuit_sim.proofs.RowLemmas.{front_changed, front_fits, behind_fits, joined_fits}
use Rattle.circuit_sim.proofs.rows.run_group.Goals as goal

pub run_at_once-requires-clause-fit : goal.run_at_once-requires-clause-fit
run_at_once-requires-clause-fit c = front_fits _ c.min-count.result c.args.rows.now c.requires.fit

pub returns-clause-rows : goal.returns-clause-rows
returns-clause-rows c =
    front_changed _ c.min-count.result c.args.rows.now c.run_at_once.new.rows (omega (arith, c.min-count.ensures)) (omega (arith, c.min-count.ensures))
    c.run_at_once.ensures.run.rows

pub returns-clause-fit : goal.returns-clause-fit
returns-clause-fit c =
    joined_fits _ c.run_at_once.new.rows _ c.run_at_once.ensures.run.fit (behind_fits _ c.min-count.result c.args.rows.now c.requires.fit)
