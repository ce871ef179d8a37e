use Rattle.sum_graph.proofs.MarkLemmas.{node_marked, node_within}
use Rattle.sum_graph.proofs.shared.mark_nodes.Goals as goal

pub mark_node-requires : goal.mark_node-requires
mark_node-requires c = node_within c.args.graph.now c.loop-k.k _ _ c.nodes-k-end.ensures.settled c.node.ensures c.loop-k.invariant

pub loop-k-preserved : goal.loop-k-preserved
loop-k-preserved c = node_marked c.args.graph.now c.loop-k.k _ _ _ c.node.ensures c.loop-k.invariant c.mark_node.ensures
