use Rattle.std.proofs.Common.{sym, ◌∙◌}
use Rattle.plan_choice.proofs.SearchLemmas.{auto_fault, no_eager}
use Rattle.plan_choice.proofs.choosing.eager_or_pebbling.Goals as goal

pub returns-then-is_refused-clause-refused : goal.returns-then-is_refused-clause-refused
returns-then-is_refused-clause-refused c =
    auto_fault c.args.graph.now c.args.budget.now c.lay_pebbling.result
    (no_eager c.args.graph.now c.args.budget.now c.lay_eager-tried.result (sym c.is_refused.ensures ∙ c.if-is_refused.true)
    c.lay_eager-tried.ensures.refused) c.lay_pebbling.ensures.refused
