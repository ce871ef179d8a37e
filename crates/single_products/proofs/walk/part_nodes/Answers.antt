use Rattle.std.proofs.Common.{arith, subst}
use Rattle.single_products.specs.inside.Parting.{AreNodesParted}
use Rattle.single_products.proofs.WalkLemmas.{node_parted, node_placed, node_room, nodes_begun}
use Rattle.single_products.proofs.walk.part_nodes.Goals as goal

pub loop-n-init : goal.loop-n-init
loop-n-init c = rw (c.in_ok-places.ensures.items, c.new-nodes.ensures.empty) (nodes_begun c.args.graph.now)

pub part_node-requires-clause-places : goal.part_node-requires-clause-places
part_node-requires-clause-places c = rw c.deref.ensures.value (node_placed _ _ _ _ _ c.nodes-n-end.ensures.keeps c.loop-n.invariant c.node.ensures)

pub part_node-requires-clause-room : goal.part_node-requires-clause-room
part_node-requires-clause-room c = node_room _ _ _ _ _ c.requires c.loop-n.invariant c.node.ensures

pub loop-n-preserved : goal.loop-n-preserved
loop-n-preserved c =
    let is = rw c.deref.ensures.value at c.in_ok-place.ensures in
    rw c.in_ok-push.ensures.items (node_parted _ _ _ _ _ _ _ c.nodes-n-end.ensures.keeps c.loop-n.invariant c.node.ensures is)

pub returns : goal.returns
returns c =
    subst (λ k. AreNodesParted c.args.graph.now k c.loop-n.places.items c.loop-n.nodes.keys)
    (omega (arith, c.loop-n-test.false, c.loop-n.auto.n-end, c.nodes-n-end.ensures.nodes)) c.loop-n.invariant
