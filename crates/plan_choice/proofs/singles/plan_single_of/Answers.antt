use Rattle.plan_choice.proofs.SameLemmas.{same_answer}
use Rattle.plan_choice.proofs.ShallowLemmas.{single_outputs}
use Rattle.plan_choice.proofs.singles.plan_single_of.Goals as goal

pub returns-in-Some : goal.returns-in-Some
returns-in-Some c =
    let is = single_outputs c.args.graph.now c.args.sums.now c.in-Some.single c.requires (rw c.in-Some.is at c.in_ok-single.ensures.single).1 in
    same_answer is.inputs is.outputs is.values c.args.start c.args.budget.now c.plan_over.result c.plan_over.ensures
