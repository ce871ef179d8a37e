use Rattle.std.proofs.Common.{take}
use Rattle.product_sums.specs.Products.{Extends}
use Rattle.sum_verify.specs.inside.Rewritten.{AreNodesOf}
use Rattle.sum_verify.proofs.rewritten.forms_of_nodes.Given as goal

abbrev pub invariant-loop-k : goal.invariant-loop-k
invariant-loop-k l = Extends l.initial.products l.products × AreNodesOf l.compared l.products l.k (take l.k l.graph.nodes) l.nodes.items
