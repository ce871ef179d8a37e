use Rattle.std.proofs.Common.{length, refl, ◌∙◌}
use Rattle.std.proofs.lemmas.Option.{slice_get_read}
use Rattle.wide_sums.proofs.RowLemmas.{axes_begun, axes_next}
use Rattle.wide_sums.proofs.axes.axes_of.Goals as goal

pub loop-place-init : goal.loop-place-init
loop-place-init c = rw c.in_ok-axes.ensures.items (axes_begun _ _)

pub loop-place-preserved : goal.loop-place-preserved
loop-place-preserved c =
    let sums = c.args.sums.now in
    let e = slice_get_read sums (length sums) c.loop-place.place _ refl c.loop-place-test.true c.index-sums-place.is in
    rw c.in_ok-push.ensures.items
    (axes_next _ _ _ c.loop-place.place _ _ e (c.in_ok-from_slice.ensures.items ∙ c.deref.ensures.value) c.variable.ensures c.loop-place.invariant)

pub returns : goal.returns
returns c = c.loop-place.invariant
