use Rattle.std.proofs.Common.{IfSome, ℕ, Option, subst}
use Rattle.wide_sums.specs.inside.Forms.{IsWordOf}
use Rattle.wide_sums.proofs.KnownLemmas.{product_word}
use Rattle.wide_sums.proofs.known.word_of_product.Goals as goal

pub returns : goal.returns
returns c =
    let axes = c.args.given.axes.now in
    let known = c.args.given.known.now in
    let one = subst (λ (found : Option ℕ). IfSome found (IsWordOf axes known c.first.result.now)) c.in-Some.is c.in_ok-first.ensures in
    let two = subst (λ (found : Option ℕ). IfSome found (IsWordOf axes known c.second.result.now)) c.in-Some-2.is c.in_ok-second.ensures in
    product_word _ _ _ _ _ (rw c.first.ensures at one) (rw c.second.ensures at two)
