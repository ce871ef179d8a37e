use Rattle.product_sums.specs.Products.{Extends}
use Rattle.circuit_verify.specs.Compared.{comparison}
use Rattle.sum_verify.specs.inside.Forms.{AreFormsOf}
use Rattle.sum_verify.proofs.RewrittenLemmas.{first_sums}
use Rattle.sum_verify.proofs.rewritten.forms_of_outputs.Given as goal

abbrev pub invariant-loop-sum : goal.invariant-loop-sum
invariant-loop-sum l =
    Extends l.initial.products l.products
    × AreFormsOf (comparison l.compared) l.products l.sum-index l.outputs.items (first_sums l.compared l.graph l.sum-index)
