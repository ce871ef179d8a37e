use Rattle.revc_words.specs.Words.{order_of}
use Rattle.program_commands.proofs.PlanLemmas.{plan_of_texts, planning_stops, settling_stops}
use Rattle.revc_base.proofs.ResultLemmas.{passes_on}
use Rattle.program_commands.proofs.planning.plan_tape.Goals as goal

pub returns-in_err-settled-clause-err : goal.returns-in_err-settled-clause-err
returns-in_err-settled-clause-err c =
    passes_on _ c.from_residual.result c.from_residual.ensures.1
    (settling_stops (order_of c.args.order.now) c.args.tape.now c.in_err-settled.field-0.0 c.in_err-settled.ensures.err)

pub returns-clause-ok : goal.returns-clause-ok
returns-clause-ok c =
    plan_of_texts (order_of c.args.order.now) c.args.tape.now c.in_ok-settled.settled c.lay.result c.requires.limits c.in_ok-settled.ensures.ok c.lay.ensures.ok

pub returns-clause-err : goal.returns-clause-err
returns-clause-err c =
    planning_stops (order_of c.args.order.now) c.args.tape.now c.in_ok-settled.settled c.lay.result c.in_ok-settled.ensures.ok c.lay.ensures.err
