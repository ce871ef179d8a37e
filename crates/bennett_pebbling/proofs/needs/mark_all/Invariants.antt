use Rattle.std.proofs.Common.{[], ◌∷◌, take}
use Rattle.std.specs.List.{flat_map}
use Rattle.dependency_graph.specs.declared.node.Base.{Base}
use Rattle.dependency_graph.specs.Graphs.{nodes_among}
use Rattle.bennett_pebbling.specs.inside.Marks.{HasMarked}
use Rattle.bennett_pebbling.proofs.needs.mark_all.Given as goal

abbrev pub invariant-loop-base : goal.invariant-loop-base
invariant-loop-base l = HasMarked l.lo (nodes_among (flat_map (λ (b : Base). b ∷ []) (take l.base-index l.bases))) l.initial.marks l.marks
