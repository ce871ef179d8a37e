use Rattle.std.proofs.Common.{rules, ◌≡◌}
use Rattle.line_states.specs.States.{planned_of}
use Rattle.line_states.proofs.EndLemmas.{ended_plan}
use Rattle.line_states.proofs.states.LineStates.finish.Goals as goal

pub returns-clause-narrow : goal.returns-clause-narrow
returns-clause-narrow c =
    let is : c.plan_of.result ≡ planned_of c.args.self = search rules in
    rw is (ended_plan c.args.self c.is_ended.ensures.keeps (c.is_ended.ensures.ended.0 c.if-not-is_ended.false))
