use Rattle.product_sums.specs.Products.{Extends}
use Rattle.sum_verify.specs.inside.Rewritten.{IsHeldPart}
use Rattle.sum_verify.proofs.rewritten.sum_form.Given as goal

abbrev pub invariant-loop-product : goal.invariant-loop-product
invariant-loop-product l = Extends l.fn.products l.products × IsHeldPart l.products l.lines l.nodes l.sum l.product-index l.form
