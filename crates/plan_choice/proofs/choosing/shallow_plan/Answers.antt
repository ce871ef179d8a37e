use Rattle.std.proofs.lemmas.Result.{IfOk-weaker}
use Rattle.circuit_plans.specs.declared.roles.Start.TheVariants.{Any}
use Rattle.plan_choice.proofs.CopiedLemmas.{small_tried}
use Rattle.plan_choice.proofs.LeanLemmas.{laid_for_lean, laid_lean, lean_refused}
use Rattle.plan_choice.proofs.ShallowLemmas.{shallow_of_lean, shallow_refused}
use Rattle.plan_choice.proofs.choosing.shallow_plan.Goals as goal

pub or_shallower-tried-requires-clause-ok : goal.or_shallower-tried-requires-clause-ok
or_shallower-tried-requires-clause-ok c =
    let s = c.args.graph.now in let b = c.args.budget.now in let l = c.in_ok-lean.lean in
    let is = c.in_ok-lean.ensures.lean in let tried = c.lay_lean-tried in
    shallow_of_lean s b tried.result (laid_for_lean s l b is Any tried.result tried.ensures.ok) (laid_lean s l b is Any tried.result tried.ensures.ok)

pub or_shallower-tried-requires-clause-refused : goal.or_shallower-tried-requires-clause-refused
or_shallower-tried-requires-clause-refused c =
    let s = c.args.graph.now in let b = c.args.budget.now in let tried = c.lay_lean-tried in
    shallow_refused s b tried.result (lean_refused s c.in_ok-lean.lean b c.in_ok-lean.ensures.lean tried.result tried.ensures.refused)

pub returns-then-small-clause-ok : goal.returns-then-small-clause-ok
returns-then-small-clause-ok c = IfOk-weaker c.or_shallower-tried.result _ _ (λ laid is. is.laid_for) c.or_shallower-tried.ensures.ok

pub returns-then-small-clause-chosen : goal.returns-then-small-clause-chosen
returns-then-small-clause-chosen c =
    small_tried c.args.graph.now c.args.budget.now c.or_shallower-tried.result c.or_shallower-tried.ensures.ok (c.in_ok-small.ensures c.if-small.true)
