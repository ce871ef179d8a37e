use Rattle.std.proofs.Common.{length, slice_get, refl, ap, sym, arith, ◌∙◌}
use Rattle.std.proofs.lemmas.Option.{slice_get_read}
use Rattle.single_products.proofs.PartLemmas.{part_room, rebuilt_begun, rebuilt_done, rebuilt_more}
use Rattle.single_products.proofs.parting.rebuilt.Goals as goal

pub loop-k-init : goal.loop-k-init
loop-k-init c = rebuilt_begun c.args.kept _ c.args.sum.now _ _ c.in_ok-whole.ensures

pub part-requires-clause-room : goal.part-requires-clause-room
part-requires-clause-room c =
    part_room c.loop-k.k c.args.kept _ _ _ _ _ _ c.requires.room (rw c.products-product-items.ensures at c.loop-k-test.true) c.loop-k.invariant

pub loop-k-preserved : goal.loop-k-preserved
loop-k-preserved c =
    let products = c.products-product-items.result.now in
    rebuilt_more c.loop-k.k c.args.kept _ c.args.sum.now c.product-item.result _ _ _ _ _ _ _
    (ap (λ l. slice_get l c.loop-k.k) (sym c.products-product-items.ensures)
    ∙ slice_get_read products (length products) c.loop-k.k _ refl c.loop-k-test.true c.product-item.is)
    refl c.loop-k.invariant c.in_ok-part.ensures c.in_ok-whole-2.ensures

pub returns : goal.returns
returns c =
    rebuilt_done c.loop-k.k c.args.kept _ _ _ _ _ (omega (arith, c.loop-k-test.false, c.loop-k.auto.k-end, ap length c.products-product-items.ensures))
    c.loop-k.invariant
