use Rattle.sum_toggles.specs.Toggles.{base_line, product_gates}
use Rattle.sum_toggles.proofs.StepLemmas.{one_more}
use Rattle.sum_toggles.proofs.toggling.append_products.Goals as goal

pub loop-product-preserved : goal.loop-product-preserved
loop-product-preserved c =
    one_more (product_gates (base_line c.args.on.first c.args.on.lines.now) c.args.target) c.loop-product.gates.items c.append_product.new.gates.items _
    c.args.products.now c.loop-product.product-index c.product-item.result c.loop-product-test.true c.product-item.is c.in_ok-append_product.ensures
    c.loop-product.invariant
