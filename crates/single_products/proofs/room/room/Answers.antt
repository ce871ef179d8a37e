use Rattle.std.proofs.Common.{refl}
use Rattle.single_products.proofs.RoomLemmas.{left_both, nodes_large}
use Rattle.single_products.proofs.room.room.Goals as goal

pub returns-in_err-left : goal.returns-in_err-left
returns-in_err-left c =
    rw c.from_residual.ensures
    (nodes_large c.args.graph.now c.nodes.result _ c.nodes.ensures.nodes c.nodes.ensures.keeps.few_nodes refl (rw c.in_err-left.was at c.left_by_nodes.ensures))

pub returns : goal.returns
returns c =
    left_both c.left_by_outputs.result c.args.graph.now c.nodes.result _ c.in_ok-left.left c.outputs.result.now c.nodes.ensures.nodes
    c.nodes.ensures.keeps.few_nodes refl c.in_ok-left.ensures c.outputs.ensures.outputs c.left_by_outputs.ensures
