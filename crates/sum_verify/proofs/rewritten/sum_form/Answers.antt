use Rattle.std.proofs.Common.{◌≡◌, ◌+◌, List, Some, ap, length, refl, slice_get, sym, subst, ◌∙◌}
use Rattle.std.proofs.lemmas.Option.{slice_get_read}
use Rattle.bit_sums.specs.Sums.{ProductView}
use Rattle.product_sums.specs.Products.{Extends, ProductsView}
use Rattle.sum_verify.specs.inside.Rewritten.{IsHeldPart}
use Rattle.product_sums.proofs.TableLemmas.{determined_later, extends_equal, extends_further}
use Rattle.sum_verify.proofs.RewrittenLemmas.{part_begun, part_done, part_next}
use Rattle.sum_verify.proofs.rewritten.sum_form.Goals as goal
use Rattle.sum_verify.proofs.rewritten.sum_form.Goals.{After-product-item}

at : (c : After-product-item) → slice_get c.args.sum.now.products c.loop-product.product-index ≡ Some c.product-item.result
at c =
    let products = c.products-product-items.result.now in
    ap (λ (l : List ProductView). slice_get l c.loop-product.product-index) (sym c.products-product-items.ensures)
    ∙ slice_get_read products (length products) c.loop-product.product-index _ refl c.loop-product-test.true c.product-item.is

pub loop-product-init : goal.loop-product-init
loop-product-init c = (
  extends_equal _ _ c.bits_form.ensures.same,
  rw c.bits_form.ensures.same (part_begun _ _ _ c.args.sum.now _ (rw (c.bits.ensures, c.one.ensures) at c.in_ok-form.ensures.form)),
)

pub product_form-requires-clause-lines : goal.product_form-requires-clause-lines
product_form-requires-clause-lines c = record {
  each = λ i low. determined_later c.args.products.now c.loop-product.products _ c.loop-product.invariant.0 (c.requires.lines.each i low);
}

pub product_form-requires-clause-nodes : goal.product_form-requires-clause-nodes
product_form-requires-clause-nodes c = record {
  each = λ i low. determined_later c.args.products.now c.loop-product.products _ c.loop-product.invariant.0 (c.requires.nodes.each i low);
}

pub loop-product-preserved : goal.loop-product-preserved
loop-product-preserved c =
    let there = (goal.at.loop-product-preserved c).After-product-item in
    let now = c.product_form.new.products in
    let same = sym c.sum.ensures.same in
    let next = part_next c.loop-product.products now c.args.lines.now c.args.nodes.now c.args.sum.now c.loop-product.product-index c.product-item.result
    c.loop-product.form c.in_ok-next.next c.in_ok-form-2.form (at there) c.in_ok-next.ensures.extends c.loop-product.invariant.1
    c.in_ok-next.ensures.form c.in_ok-form-2.ensures.sum in (
      subst (Extends c.args.products.now) same
          (extends_further c.args.products.now c.loop-product.products now c.loop-product.invariant.0 c.in_ok-next.ensures.extends),
      subst (λ (t : ProductsView). IsHeldPart t c.args.lines.now c.args.nodes.now c.args.sum.now (c.loop-product.product-index + 1) c.in_ok-form-2.form) same
          next,
    )

pub returns-clause-form : goal.returns-clause-form
returns-clause-form c =
    part_done _ _ _ c.args.sum.now c.loop-product.product-index _ (rw c.products-product-items.ensures at c.loop-product-test.false) c.loop-product.invariant.1
