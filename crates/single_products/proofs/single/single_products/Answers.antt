use Rattle.std.proofs.Common.{subst, sym}
use Rattle.sum_graph.specs.Graphs.{IsSumGraph}
use Rattle.single_products.specs.Singles.{IsSingleOf}
use Rattle.single_products.proofs.RoomLemmas.{has_room}
use Rattle.single_products.proofs.WalkLemmas.{IsDone, done_as}
use Rattle.single_products.proofs.single.single_products.Goals as goal
use Rattle.single_products.proofs.single.single_products.Goals.{After-inputs}

pub part_nodes-requires : goal.part_nodes-requires
part_nodes-requires c = has_room _ _ _ c.room.ensures c.is_none.ensures c.if-is_none.false

pub part_outputs-requires-clause-room : goal.part_outputs-requires-clause-room
part_outputs-requires-clause-room c = has_room _ _ _ c.room.ensures c.is_none.ensures c.if-is_none.false

pub part_outputs-requires-clause-parted : goal.part_outputs-requires-clause-parted
part_outputs-requires-clause-parted c = rw c.deref.ensures.value c.in_ok-nodes.ensures

is_done : (c : goal.After-inputs)
    → IsDone c.args.graph.now (record { inputs = c.inputs.result; nodes = c.in_ok-nodes-2.nodes.items; outputs = c.in_ok-outputs.outputs.items })
is_done c =
    done_as c.args.graph.now _ _ _ _ _ c.inputs.ensures.inputs c.in_ok-nodes-2.ensures c.inputs.ensures.keeps
    (has_room _ _ _ c.room.ensures c.is_none.ensures c.if-is_none.false) c.in_ok-outputs.ensures

pub new-requires : goal.new-requires
new-requires c = (is_done (goal.at.new-requires c).After-inputs).keeps

pub returns-clause-single : goal.returns-clause-single
returns-clause-single c = (
  has_room _ _ _ c.room.ensures c.is_none.ensures c.if-is_none.false,
  subst (IsSingleOf c.args.graph.now) (sym c.in_ok-new.ensures) (is_done (goal.at.returns-clause-single c).After-inputs).single,
)

pub returns-clause-keeps : goal.returns-clause-keeps
returns-clause-keeps c = subst IsSumGraph (sym c.in_ok-new.ensures) (is_done (goal.at.returns-clause-keeps c).After-inputs).keeps
