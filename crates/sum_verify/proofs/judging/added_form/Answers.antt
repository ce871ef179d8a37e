use Rattle.std.proofs.Common.{◌≡◌, ◌+◌, ◌-◌, ◌<◌, ◌≤◌, ◌⊎◌, inl, inr, ℕ, length, subst, ap, arith, ◌∙◌}
use Rattle.std.proofs.lemmas.List.{get_or_read}
use Rattle.linear_forms.specs.Bases.{no_form}
use Rattle.linear_forms.specs.Forms.{FormView, IsSum}
use Rattle.circuit_verify.specs.Compared.{comparison}
use Rattle.circuit_verify.specs.Comparisons.{inputs_in}
use Rattle.sum_verify.specs.inside.Forms.{form_at}
use Rattle.sum_verify.proofs.JudgeLemmas.{wanted_as_start, wanted_as_sum}
use Rattle.sum_verify.proofs.judging.added_form.Goals as goal
use Rattle.sum_verify.proofs.judging.added_form.Goals.{then-line-inputs-via-else-line-inputs+then-line-inputs-2, then-line-inputs-via-then-line-inputs}

pub returns-then-line-inputs-clause-wanted : goal.returns-then-line-inputs-clause-wanted
returns-then-line-inputs-clause-wanted c =
    let v = c.args.compared.now in
    let n : ℕ = inputs_in (comparison v) in
    let place = elim c.then-line-inputs.branch as (λ _. (c.args.line < n) ⊎ (n + length v.graph.outputs ≤ c.args.line)) [
      | then-line-inputs-via-then-line-inputs w ↦ inl (omega (arith, w.if-line-inputs.true, c.inputs-inputs.ensures))
      | then-line-inputs-via-else-line-inputs+then-line-inputs-2 w ↦
          inr (omega (arith, w.if-line-inputs.false, w.if-line-inputs-2.true, w.outputs.ensures, c.inputs-inputs.ensures))
    ] in
    wanted_as_start v c.variables.ensures.ready c.args.products.now c.args.line c.in_ok-start.start c.requires.placing place c.in_ok-start.ensures

pub returns-clause-wanted : goal.returns-clause-wanted
returns-clause-wanted c =
    let v = c.args.compared.now in
    let n : ℕ = inputs_in (comparison v) in
    let line = c.args.line in
    let outputs = c.args.outputs.now in
    let late : n ≤ line = omega (arith, c.if-line-inputs.false, c.inputs-inputs.ensures) in
    let low : line - n < length v.graph.outputs =
    omega (arith, c.if-line-inputs-2.false, c.outputs.ensures, c.inputs-inputs.ensures) in
    let here : line - c.inputs-inputs.result ≡ line - n = omega (arith, c.inputs-inputs.ensures) in
    let read : c.index-outputs-line.result ≡ form_at outputs (line - n) =
    get_or_read outputs (line - c.inputs-inputs.result) c.index-outputs-line.result (omega (arith, low, here, c.requires.outputs.one_each))
    c.index-outputs-line.is no_form
    ∙ ap (form_at outputs) here in
    wanted_as_sum v c.args.products.now outputs line c.in_ok-start.start c.in_ok-sum.field-0 c.requires.placing late low c.in_ok-start.ensures
    c.requires.outputs (subst (λ (g : FormView). IsSum c.in_ok-start.start g c.in_ok-sum.field-0) read c.in_ok-sum.ensures.sum)
