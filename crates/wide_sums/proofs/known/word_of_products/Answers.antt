use Rattle.std.proofs.Common.{IfSome, ℕ, Option, length, refl, subst}
use Rattle.std.proofs.lemmas.Option.{slice_get_read}
use Rattle.wide_sums.specs.inside.Forms.{IsProductWord}
use Rattle.wide_sums.proofs.KnownLemmas.{products_begun, products_done, products_next}
use Rattle.wide_sums.proofs.known.word_of_products.Goals as goal

pub loop-product-init : goal.loop-product-init
loop-product-init c = products_begun _ _

pub loop-product-preserved : goal.loop-product-preserved
loop-product-preserved c =
    let products = c.args.products.now in
    let product = c.product-item.result in
    let e = slice_get_read products (length products) c.loop-product.product-index _ refl c.loop-product-test.true c.product-item.is in
    let P = IsProductWord c.args.given.axes.now c.args.given.known.now product in
    products_next _ _ _ c.loop-product.product-index _ _ _ e c.loop-product.invariant
    (subst (λ (found : Option ℕ). IfSome found P) c.in-Some.is c.in_ok-word.ensures)

pub returns : goal.returns
returns c = products_done _ _ _ c.loop-product.product-index _ c.loop-product-test.false c.loop-product.invariant
