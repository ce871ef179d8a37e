use Rattle.bit_sums.specs.Sums.{product_bases}
use Rattle.bennett_pebbling.proofs.NeedLemmas.{marked_further, marked_two}
use Rattle.bennett_pebbling.proofs.needs.mark_products.Goals as goal

pub loop-product-preserved : goal.loop-product-preserved
loop-product-preserved c =
    let first = rw c.first.ensures.first at c.mark_all.ensures in
    let second = rw c.second.ensures.second at c.mark_all-in-loop-product.ensures in
    marked_further product_bases c.args.lo _ c.loop-product.marks _ c.args.products.now c.loop-product.product-index c.product-item.result
    c.loop-product-test.true c.product-item.is c.loop-product.invariant
    (marked_two c.args.lo c.product-item.result.first c.product-item.result.second c.loop-product.marks _ _ first second)
