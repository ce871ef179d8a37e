use Rattle.std.proofs.Common.{IfSome, ℕ, Option, refl, subst}
use Rattle.wide_sums.specs.inside.Forms.{AreProductsWord}
use Rattle.wide_sums.proofs.KnownLemmas.{sum_form}
use Rattle.wide_sums.proofs.known.form_of_sum.Goals as goal

pub returns : goal.returns
returns c =
    let axes = c.args.axes.now in
    let known = c.args.known.now in
    let words = subst (λ (found : Option ℕ). IfSome found (AreProductsWord axes known c.products.result.now)) c.in-Some.is c.in_ok-word.ensures in
    sum_form _ _ c.args.sum.now c.in_ok-form.form _ _ _ (rw c.products.ensures at words) (rw c.bits.ensures at c.in_ok-form.ensures)
    (rw c.one.ensures at c.ones.ensures) refl refl
