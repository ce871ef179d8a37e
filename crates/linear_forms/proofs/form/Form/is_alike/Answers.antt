use Rattle.std.proofs.Common.{◌≡◌, ap, sym, ◌∙◌, rules}
use Rattle.std.specs.Cmp.Lexicographic.{pointwise_decides}
use Rattle.linear_forms.specs.Forms.{FormView}
use Rattle.linear_forms.proofs.form.Form.is_alike.Goals as goal

pub returns : goal.returns
returns c same =
    let is : c.as_slice.result.now ≡ c.as_slice-2.result.now = search (rules, pointwise_decides, c.eq.ensures, same) in
    sym (ap (λ (v : FormView). v.terms) c.self.view_is)
    ∙ sym c.as_slice.ensures.value
    ∙ is
    ∙ c.as_slice-2.ensures.value
    ∙ ap (λ (v : FormView). v.terms) c.other.view_is
