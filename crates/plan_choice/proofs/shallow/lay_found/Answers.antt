use Rattle.plan_choice.proofs.ShallowLemmas.{shallow_laid, shallow_reordered}
use Rattle.plan_choice.proofs.shallow.lay_found.Goals as goal

pub returns-clause-ok : goal.returns-clause-ok
returns-clause-ok c =
    let s = c.args.graph.now in let b = c.args.budget.now in
    shallow_reordered s b c.in_ok-laid.laid c.in_ok-with_best_order.field-0 c.in_ok-with_best_order.ensures
    (shallow_laid s b c.in-Some.planned c.in_ok-laid.laid (rw c.in-Some.is at c.requires) c.in_ok-laid.ensures.ok)
