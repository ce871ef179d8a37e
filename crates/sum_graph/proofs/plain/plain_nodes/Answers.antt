use Rattle.claim_check.proofs.NodeLemmas.{known_at}
use Rattle.sum_graph.proofs.PlainLemmas.{one_more, operands_different}
use Rattle.sum_graph.proofs.plain.plain_nodes.Goals as goal

pub plain_sum-requires : goal.plain_sum-requires
plain_sum-requires c =
    operands_different c.args.graph.now.inputs c.loop-k.k c.node.result
    (known_at c.args.graph.now.inputs c.loop-k.k c.args.graph.now.nodes c.node.result c.nodes.ensures.settled.nodes c.node.ensures)

pub loop-k-preserved : goal.loop-k-preserved
loop-k-preserved c =
    one_more c.args.graph.now.nodes c.loop-k.k c.node.result c.in_ok-plain_sum.field-0 c.loop-k.nodes.items c.push.new.self.items c.node.ensures
    c.in_ok-push.ensures.items c.in_ok-plain_sum.ensures c.loop-k.invariant
