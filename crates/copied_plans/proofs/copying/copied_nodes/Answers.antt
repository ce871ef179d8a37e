use Rattle.std.proofs.Common.{arith}
use Rattle.claim_check.proofs.NodeLemmas.{known_at}
use Rattle.copied_plans.proofs.GraphLemmas.{copied_more, few_operands}
use Rattle.copied_plans.proofs.copying.copied_nodes.Goals as goal

pub push_copied-requires-clause-few : goal.push_copied-requires-clause-few
push_copied-requires-clause-few c =
    let s = c.args.graph.now in
    few_operands s.inputs c.loop-k.k c.node.result (omega (arith, c.requires, c.loop-k-test.true))
    (known_at s.inputs c.loop-k.k s.nodes c.node.result c.nodes.ensures.settled.nodes c.node.ensures)

pub loop-k-preserved : goal.loop-k-preserved
loop-k-preserved c =
    copied_more c.args.graph.now.nodes c.loop-k.k c.node.result c.loop-k.sums.items c.push_copied.new.sums.items c.node.ensures
    c.in_ok-push_copied.ensures c.loop-k.invariant
