use Rattle.plan_choice.proofs.SameLemmas.{same_found}
use Rattle.plan_choice.proofs.lean.or_fewer.Goals as goal

pub or_better-best-requires-clause-found : goal.or_better-best-requires-clause-found
or_better-best-requires-clause-found c =
    let is = rw c.in-Some.is at c.requires.fewer in
    same_found is.inputs is.outputs is.values c.args.start c.args.budget.now c.in_ok-homes.homes c.in_ok-homes.ensures

pub or_better-requires-clause-found : goal.or_better-requires-clause-found
or_better-requires-clause-found c =
    let is = rw c.in-Some.is at c.requires.fewer in
    same_found is.inputs is.outputs is.values c.args.start c.args.budget.now c.in_ok-spans.spans c.in_ok-spans.ensures
