use Rattle.plan_choice.proofs.LeanLemmas.{compact_refused, laid_for_lean, laid_lean, lean_refused}
use Rattle.plan_choice.proofs.choosing.lean_plan.Goals as goal

pub returns-clause-ok : goal.returns-clause-ok
returns-clause-ok c =
    laid_for_lean c.args.graph.now c.in_ok-lean.lean c.args.budget.now c.in_ok-lean.ensures.lean c.args.start c.lay_lean.result c.lay_lean.ensures.ok

pub returns-clause-chosen : goal.returns-clause-chosen
returns-clause-chosen c =
    laid_lean c.args.graph.now c.in_ok-lean.lean c.args.budget.now c.in_ok-lean.ensures.lean c.args.start c.lay_lean.result c.lay_lean.ensures.ok

pub returns-clause-refused : goal.returns-clause-refused
returns-clause-refused c =
    lean_refused c.args.graph.now c.in_ok-lean.lean c.args.budget.now c.in_ok-lean.ensures.lean c.lay_lean.result c.lay_lean.ensures.refused

pub returns-clause-refused_too : goal.returns-clause-refused_too
returns-clause-refused_too c =
    compact_refused c.args.graph.now c.in_ok-lean.lean c.args.budget.now c.in_ok-lean.ensures.lean c.lay_lean.result c.lay_lean.ensures.refused
