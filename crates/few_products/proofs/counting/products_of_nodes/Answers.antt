use Rattle.std.proofs.Common.{ap, length}
use Rattle.few_products.proofs.CountLemmas.{one_counted}
use Rattle.few_products.proofs.counting.products_of_nodes.Goals as goal

pub loop-node-preserved : goal.loop-node-preserved
loop-node-preserved c =
    one_counted c.args.graph.now.nodes c.loop-node.node _ _ _ _ c.node.ensures c.loop-node.invariant (ap length c.products.ensures)
    c.in_ok-count.ensures.1
