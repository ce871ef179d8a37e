use Rattle.std.proofs.Common.{List, length, subst, ◌∙◌}
use Rattle.linear_forms.specs.Forms.{FormView}
use Rattle.linear_forms.specs.inside.Combining.{IsCombined}
use Rattle.linear_forms.proofs.BasisLemmas.{form_is}
use Rattle.linear_forms.proofs.basis.Basis.form.Goals as goal

pub returns : goal.returns
returns c =
    let sum = c.in_ok-sum.sum in
    let made = subst (λ (ms : List FormView). IsCombined ms c.args.factor.set (length ms) sum) (c.deref.ensures.value ∙ c.self.view_is) c.in_ok-sum.ensures in
    form_is c.args.self.now sum c.with_one.result c.args.factor made c.with_one.ensures
