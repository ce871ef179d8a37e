use Rattle.plan_choice.proofs.CopiedLemmas.{copied_laid}
use Rattle.plan_choice.proofs.copied.lay_copied.Goals as goal

pub returns-clause-ok : goal.returns-clause-ok
returns-clause-ok c =
    copied_laid c.args.graph.now c.args.budget.now c.in-Some.planned c.in_ok-laid.laid c.in_ok-with_best_order.field-0
    (rw c.in-Some.is at c.in_ok-planned.ensures) c.in_ok-laid.ensures.ok c.in_ok-with_best_order.ensures
