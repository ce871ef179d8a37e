use Rattle.std.proofs.Common.{ℕ, List, IfSome, Option, ap, length, refl, slice_get, subst, sym, ◌∙◌}
use Rattle.std.proofs.lemmas.Option.{slice_get_read}
use Rattle.bit_sums.specs.Sums.{SumView}
use Rattle.few_products.specs.declared.placing.Place.{Place}
use Rattle.few_products.specs.inside.Writing.{IsWritten, IsWrittenSum, StandsFor, only_bits, product_sum}
use Rattle.few_products.proofs.PlacingLemmas.{kept_further, kept_same, of_first, still_ready, written_alone, written_done, written_more}
use Rattle.few_products.proofs.placing.Written.sum_at.Goals as goal

pub loop-product-init : goal.loop-product-init
loop-product-init c =
    let P = StandsFor c.args.self.now.inputs c.args.self.now.places.items (only_bits c.bits.result.now c.one.result) in
    let bits = subst (λ (found : Option SumView). IfSome found P) c.in-Some.is c.in_ok-whole.ensures in
    (kept_same _, written_alone _ _ _ _ _ c.requires (rw (c.bits.ensures, c.one.ensures) at bits))

pub product_at-requires : goal.product_at-requires
product_at-requires c = still_ready _ _ c.loop-product.invariant.0 c.loop-product.invariant.1.still

pub loop-product-preserved : goal.loop-product-preserved
loop-product-preserved c =
    let products = c.products-product-items.result.now in
    let product = c.product-item.result in
    let e =
    ap (λ l. slice_get l c.loop-product.product-index) (sym c.products-product-items.ensures)
    ∙ slice_get_read products (length products) c.loop-product.product-index _ refl c.loop-product-test.true c.product-item.is in
    let old = c.loop-product.self in
    let new = c.product_at.new.self in
    let kept = c.loop-product.invariant.0 in
    let next = subst (λ (found : Option SumView). IfSome found (IsWrittenSum (product_sum product) old new)) c.in-Some-2.is c.in_ok-next.ensures in
    let P = λ (n : ℕ) (places : List (Option Place)). IsWritten n places (product_sum product) old.nodes.keys new.nodes.keys c.in-Some-2.next in
    let part = of_first P c.args.self.now old kept next.1 in (
      kept_further _ old new kept next.0,
      written_more _ _ c.loop-product.product-index c.args.sum.now product _ _ _ _ _ _ c.requires e c.loop-product.invariant.1 part c.in_ok-whole-2.ensures,
    )

pub returns : goal.returns
returns c = (
  c.loop-product.invariant.0,
  written_done _ _ c.loop-product.product-index _ _ _ _ (rw c.products-product-items.ensures at c.loop-product-test.false) c.loop-product.invariant.1,
)
