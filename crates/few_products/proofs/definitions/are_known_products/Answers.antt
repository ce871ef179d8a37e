use Rattle.std.proofs.Common.{length, refl}
use Rattle.std.proofs.lemmas.Option.{slice_get_read}
use Rattle.few_products.proofs.DefinitionLemmas.{all_done, all_next}
use Rattle.few_products.proofs.definitions.are_known_products.Goals as goal

pub loop-product-preserved : goal.loop-product-preserved
loop-product-preserved c =
    let products = c.args.products.now in
    all_next _ products c.loop-product.product-index _
    (slice_get_read products (length products) c.loop-product.product-index _ refl c.loop-product-test.true c.product-item.is) c.loop-product.invariant
    (c.is_known_product.ensures c.if-not-is_known_product.false)

pub returns : goal.returns
returns c = λ yes. all_done _ c.args.products.now c.loop-product.product-index c.loop-product-test.false c.loop-product.invariant
