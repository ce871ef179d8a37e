use Rattle.std.proofs.Common.{ap, arith, length}
use Rattle.single_products.proofs.RoomLemmas.{left_done, left_less, none_left}
use Rattle.single_products.proofs.room.left_by_nodes.Goals as goal

pub loop-n-init : goal.loop-n-init
loop-n-init c = omega arith

pub loop-n-preserved : goal.loop-n-preserved
loop-n-preserved c =
    left_less c.args.graph.now.nodes c.loop-n.n _ _ c.loop-n.left _ _ c.node.ensures (ap length c.products.ensures) c.loop-n.invariant c.in_ok-left.ensures

pub returns-in_err-left : goal.returns-in_err-left
returns-in_err-left c =
    rw c.from_residual.ensures
    (none_left c.args.graph.now.nodes c.loop-n.n _ _ c.loop-n.left _ c.node.ensures (ap length c.products.ensures) c.loop-n.invariant
    (rw c.in_err-left.was at c.checked_sub.ensures))

pub returns : goal.returns
returns c =
    left_done c.args.graph.now.nodes c.loop-n.n _ _ (omega (arith, c.loop-n-test.false, c.loop-n.auto.n-end, c.nodes-n-end.ensures.nodes)) c.loop-n.invariant
