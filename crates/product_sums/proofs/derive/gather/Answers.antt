use Rattle.std.proofs.Common.{IfSome, List, Option, subst, sym}
use Rattle.linear_forms.specs.declared.pairs.Pair.{Pair}
use Rattle.product_sums.specs.inside.Deriving.{IsCollected, IsPairOf}
use Rattle.product_sums.proofs.DeriveLemmas.{collected_more}
use Rattle.product_sums.proofs.derive.gather.Goals as goal

pub loop-place-preserved : goal.loop-place-preserved
loop-place-preserved c =
    let known = c.args.known.now in
    let first = c.args.first.now in
    let second = c.args.second.now in
    let basis = c.args.basis.now in
    let sums = c.in_ok-sums.sums in
    let k = c.in-Some-get.k.now in
    let at = c.in-Some-get.ensures.lookup in
    let pair = subst (λ (found : Option Pair). IfSome found (IsPairOf basis k.first k.second)) c.in-Some-2.is c.in_ok-pair-2.ensures in
    subst (λ (ps : List Pair). IsCollected known first second basis ps sums) (sym c.in_ok-push.ensures.items)
    (collected_more known first second basis c.loop-place.pairs.items c.loop-place.sums sums c.in-Some-2.pair
    _ k at.0 at.1 pair c.in_ok-sums.ensures c.loop-place.invariant)
