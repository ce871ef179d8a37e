use Rattle.plan_choice.proofs.ShallowLemmas.{shallow_best}
use Rattle.plan_choice.proofs.shallow.or_laid.Goals as goal

pub returns-in_ok-shallower_of-in-Ok-clause-ok : goal.returns-in_ok-shallower_of-in-Ok-clause-ok
returns-in_ok-shallower_of-in-Ok-clause-ok c =
    shallow_best c.args.graph.now c.args.budget.now c.in-Ok.laid c.in_ok-shallower_of-in-Ok.field-0 c.in_ok-found.found
    (rw c.in-Ok.is at c.requires.ok) c.in_ok-found.ensures.ok c.in_ok-shallower_of-in-Ok.ensures
