use Rattle.std.proofs.Common.{◌≡◌, drop}
use Rattle.dependency_graph.specs.inside.Tables.{with_steps}
use Rattle.dependency_graph.proofs.uses.set_node_uses.Given as goal

abbrev pub invariant-loop-place : goal.invariant-loop-place
invariant-loop-place g l =
    with_steps g.N.MadeOfBases.bases l.table l.place (drop l.place l.nodes) ≡ with_steps g.N.MadeOfBases.bases l.initial.table 0 l.nodes
