use Rattle.std.proofs.Common.{rules, ◌≡◌, ◌+◌, ◌-◌, ◌<◌, ◌∙◌, length, arith}
use Rattle.claim_check.proofs.MarkLemmas.{marked_node, unmarked_node}
use Rattle.claim_check.proofs.keeping.mark_nodes.Goals as goal

pub loop-k-preserved-then-marks-k : goal.loop-k-preserved-then-marks-k
loop-k-preserved-then-marks-k c =
    let nodes = c.args.graph.now.nodes in
    let k = c.loop-k.k in
    let next : (k - 1) + 1 ≡ k = omega (arith, c.loop-k-test.true) in
    let same : length c.mark_operands.new.marks ≡ length nodes = search rules in
    let marked =
    marked_node c.args.marks.now c.loop-k.marks nodes (k - 1) k c.node.result next c.node.ensures c.loop-k.invariant.0 c.if-marks-k.true in
    (c.mark_operands.ensures ∙ marked, same)

pub loop-k-preserved : goal.loop-k-preserved
loop-k-preserved c =
    let nodes = c.args.graph.now.nodes in
    let k = c.loop-k.k in
    let next : (k - 1) + 1 ≡ k = omega (arith, c.loop-k-test.true) in
    let inside : k - 1 < length nodes = omega (arith, c.loop-k-test.true, c.loop-k.auto.k, c.nodes-k.ensures.nodes) in
    (unmarked_node c.args.marks.now c.loop-k.marks nodes (k - 1) k next inside c.loop-k.invariant.0 c.if-marks-k.false, c.loop-k.invariant.1)
