use Rattle.product_sums.specs.Products.{Extends}
use Rattle.sum_verify.specs.inside.Nodes.{HoldsNodes}
use Rattle.sum_verify.proofs.nodes.node_forms.Given as goal

abbrev pub invariant-loop-k : goal.invariant-loop-k
invariant-loop-k l = Extends l.initial.products l.products × HoldsNodes l.compared l.products l.k l.nodes.items
