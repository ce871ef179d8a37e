use Rattle.std.proofs.Common.{sym}
use Rattle.std.proofs.lemmas.Result.{IfOk-weaker}
use Rattle.plan_choice.specs.inside.Tried.{IsLaidLean, IsRow}
use Rattle.plan_choice.proofs.LeanLemmas.{any_start}
use Rattle.plan_choice.proofs.SameLemmas.{same_found}
use Rattle.plan_choice.proofs.lean.lay_lean.Goals as goal

pub or_better-best-requires-clause-ok : goal.or_better-best-requires-clause-ok
or_better-best-requires-clause-ok c =
    let l = c.args.lean.now in let b = c.args.budget.now in
    IfOk-weaker c.lay_row-row.result (IsRow l b) (IsLaidLean c.args.start l b) (any_start c.args.start l b) c.lay_row-row.ensures.ok

pub or_better-best-requires-3-clause-found : goal.or_better-best-requires-3-clause-found
or_better-best-requires-3-clause-found c =
    let is = c.requires.lean in
    same_found (sym is.inputs) (sym is.outputs) (λ input. sym (is.values input)) c.args.start c.args.budget.now c.in_ok-states.states
    c.in_ok-states.ensures
