use Rattle.std.proofs.Common.{◌≡◌, ◌+◌, ◌∙◌, false, Some, length, slice_get, refl, subst, sym, arith}
use Rattle.std.proofs.lemmas.Option.{slice_get_read}
use Rattle.bit_sums.specs.inside.Firsts.{found_before}
use Rattle.bit_sums.proofs.JoinLemmas.{IsFirstBelow, behind_here, first_here, none_here, whole_list}
use Rattle.bit_sums.proofs.growing.first_join.Goals as goal
use Rattle.bit_sums.proofs.growing.first_join.Goals.{in-Some, in_default}

pub loop-place-preserved-then-is_behind : goal.loop-place-preserved-then-is_behind
loop-place-preserved-then-is_behind c =
    let here : slice_get c.args.products.now c.loop-place.place ≡ Some c.index-products-place.result =
    slice_get_read c.args.products.now (length c.args.products.now) c.loop-place.place _ refl c.loop-place-test.true c.index-products-place.is in
    behind_here c.loop-place.place c.args.products.now c.args.product.now c.index-products-place.result c.loop-place.first here
    (sym c.is_behind.ensures ∙ c.if-is_behind.true) c.loop-place.invariant

pub loop-place-preserved : goal.loop-place-preserved
loop-place-preserved c =
    let products = c.args.products.now in
    let place = c.loop-place.place in
    let other = c.index-products-place.result in
    let here : slice_get products place ≡ Some other =
    slice_get_read products (length products) place _ refl c.loop-place-test.true c.index-products-place.is in
    let before : found_before products c.loop-place.first other ≡ false = sym c.is_behind.ensures ∙ c.if-is_behind.false in
    elim c.match-branch-2.branch [
      | in-Some w ↦ subst (IsFirstBelow (place + 1) products c.args.product.now) (sym w.first-is)
          (first_here place products c.args.product.now other c.loop-place.first (record { place = place; part = w.in-Some.part }) refl here before
          (rw w.in-Some.is at c.in_ok-part.ensures.some) c.loop-place.invariant)
      | in_default w ↦ subst (IsFirstBelow (place + 1) products c.args.product.now) (sym w.first-is)
          (none_here place products c.args.product.now other c.loop-place.first here (rw w.in_default.is at c.in_ok-part.ensures.none)
          c.loop-place.invariant)
    ]

pub returns : goal.returns
returns c = whole_list c.loop-place.place c.args.products.now c.args.product.now c.loop-place.first (omega arith) c.loop-place.invariant
