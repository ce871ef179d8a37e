use Rattle.std.proofs.Common.{arith, subst}
use Rattle.few_products.proofs.WritingLemmas.{no_places, one_more_nowhere}
use Rattle.few_products.specs.inside.Writing.{HaveNoPlace}
use Rattle.few_products.proofs.writing.nowhere.Goals as goal

pub loop-number-init : goal.loop-number-init
loop-number-init c = rw c.new-places.ensures.items no_places

pub loop-number-preserved : goal.loop-number-preserved
loop-number-preserved c = rw c.in_ok-push.ensures.items (one_more_nowhere _ _ c.loop-number.invariant)

pub returns : goal.returns
returns c =
    subst (λ k. HaveNoPlace k c.loop-number.places.items) (omega (arith, c.loop-number-test.false, c.loop-number.auto._number-end))
    c.loop-number.invariant
