use Rattle.std.proofs.Common.{ap, ◌∙◌}
use Rattle.std.specs.List.{swap_remove}
use Rattle.std.proofs.lemmas.Option.{get_or_from_slice_get}
use Rattle.wide_sums.proofs.ToggleLemmas.{toggled_in, toggled_out}
use Rattle.wide_sums.proofs.sum.toggle.Goals as goal

pub returns-in-Some : goal.returns-in-Some
returns-in-Some c =
    let old = c.args.products.now.items in
    let place = c.in-Some.place in
    let e = rw c.deref.ensures.value at c.in-Some.ensures in
    toggled_out _ _ place _ e
    (c.swap_remove.ensures.items ∙ ap (swap_remove old place) (c.swap_remove.ensures.value ∙ get_or_from_slice_get old place _ _ e))

pub returns : goal.returns
returns c = toggled_in _ _ _ (rw c.in_ok-copy.ensures at c.in_ok-push.ensures.items)
