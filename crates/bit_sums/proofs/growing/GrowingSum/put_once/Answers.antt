use Rattle.std.proofs.Common.{◌≡◌, List, ◌∷◌, ◌++◌, None, slice_get, subst, sym, ap, ◌∙◌}
use Rattle.std.specs.List.Sorted.{IsPermutation}
use Rattle.bit_sums.specs.Sums.{ProductView, SumView}
use Rattle.bit_sums.specs.inside.Putting.{IsPutOnce}
use Rattle.bit_sums.proofs.GrowingLemmas.{all_but, came, out_at, put_at, put_away, put_in, same_product, went}
use Rattle.bit_sums.proofs.growing.GrowingSum.put_once.Goals as goal

pub invariant_of-self : goal.invariant_of-self
invariant_of-self c =
    let old = c.self.inside.products.keys in
    all_but c.args.product old c.swap_remove.new.self.keys
    (subst (λ (l : List ProductView). IsPermutation old (c.args.product ∷ l)) (sym c.swap_remove.ensures.keys)
    (went c.args.product old c.if-swap_remove.ensures.found (λ y e. same_product c.args.product y e))) c.self.invariant

pub returns-then-swap_remove : goal.returns-then-swap_remove
returns-then-swap_remove c =
    let new : SumView = record { bits = c.self.inside.bits.items; products = c.swap_remove.new.self.keys; one = c.self.inside.one } in
    subst (λ (s : SumView). IsPutOnce s c.args.product new None) c.self.view_is
    (put_away c.self.inside.bits.items c.self.inside.products.keys c.swap_remove.new.self.keys c.self.inside.one c.args.product
    (subst (λ (l : List ProductView). IsPermutation c.self.inside.products.keys (c.args.product ∷ l)) (sym c.swap_remove.ensures.keys)
    (went c.args.product c.self.inside.products.keys c.if-swap_remove.ensures.found (λ y e. same_product c.args.product y e))))

pub returns-in_default : goal.returns-in_default
returns-in_default c =
    let new : SumView = record { bits = c.self.inside.bits.items; products = c.insert.new.self.keys; one = c.self.inside.one } in
    subst (λ (s : SumView). IsPutOnce s c.args.product new None) c.self.view_is
    (put_in c.self.inside.bits.items c.self.inside.products.keys c.insert.new.self.keys c.self.inside.one c.args.product
    (rw (c.in_ok-insert.ensures.keys, c.if-swap_remove.ensures.unchanged)
    (came c.args.product c.self.inside.products.keys c.if-swap_remove.ensures.found)))

pub returns : goal.returns
returns c =
    let kept : c.swap_remove.new.self.keys ≡ c.self.inside.products.keys = c.if-swap_remove.ensures.unchanged in
    let new : SumView = record { bits = c.extend_from_slice.new.self.items; products = c.swap_remove_index.new.self.keys; one = c.self.inside.one } in
    subst (λ (s : SumView). IsPutOnce s c.args.product new c.in-Some.field-0.part.product) c.self.view_is
    (put_at c.self.inside.bits.items c.extend_from_slice.new.self.items c.self.inside.products.keys c.swap_remove_index.new.self.keys c.self.inside.one
    c.args.product c.in-Some.field-0 (rw kept at (rw c.in-Some.is at c.in_ok-place.ensures).1)
    (out_at _ _ _ c.swap_remove_index.result (c.swap_remove_index.ensures.key ∙ ap (λ l. slice_get l c.in-Some.field-0.place) kept)
    (rw kept at c.swap_remove_index.ensures.keys))
    (c.in_ok-extend_from_slice.ensures.items ∙ ap (λ l. c.self.inside.bits.items ++ l) c.deref.ensures.value))
