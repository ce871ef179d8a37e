use Rattle.std.proofs.Common.{◌≡◌, Bool, List, length, not, ap, subst, ◌∙◌}
use Rattle.linear_forms.specs.Forms.{FormView}
use Rattle.linear_forms.specs.inside.Combining.{IsCombined}
use Rattle.linear_forms.proofs.BasisLemmas.{factor_is}
use Rattle.linear_forms.proofs.basis.Basis.factor.Goals as goal

pub returns : goal.returns
returns c =
    let sum = c.in_ok-sum.sum in
    let made =
    subst (λ (ms : List FormView). IsCombined ms c.reduce-set.result.1 (length ms) sum) (c.deref.ensures.value ∙ c.self.view_is) c.in_ok-sum.ensures in
    factor_is c.args.self.now sum c.args.form.now _ made (c.is_alike.ensures c.if-not-is_alike.false)
    (ap (λ (o : Bool). not (mathlib.Core.Bool.beq o c.one-2.result)) c.one.ensures
    ∙ ap (λ (o : Bool). not (mathlib.Core.Bool.beq sum.one o)) c.one-2.ensures)
