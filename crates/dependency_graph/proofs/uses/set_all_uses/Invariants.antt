use Rattle.std.proofs.Common.{◌≡◌, drop}
use Rattle.std.specs.List.{flat_map}
use Rattle.dependency_graph.specs.Uses.{with_uses}
use Rattle.dependency_graph.proofs.uses.set_all_uses.Given as goal

abbrev pub invariant-loop-one : goal.invariant-loop-one
invariant-loop-one g l =
    with_uses l.table (flat_map g.T.MadeOfBases.bases (drop l.one-index l.all)) l.place
    ≡ with_uses l.initial.table (flat_map g.T.MadeOfBases.bases l.all) l.place
