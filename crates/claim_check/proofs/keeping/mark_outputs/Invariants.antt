use Rattle.std.proofs.Common.{◌≡◌, drop}
use Rattle.std.specs.List.{flat_map}
use Rattle.dependency_graph.specs.Graphs.{base_of}
use Rattle.claim_check.specs.inside.Marks.{with_marks}
use Rattle.claim_check.proofs.keeping.mark_outputs.Given as goal

abbrev pub invariant-loop-sig : goal.invariant-loop-sig
invariant-loop-sig l =
    with_marks l.marks (flat_map base_of (drop l.sig-index l.outputs)) ≡ with_marks l.initial.marks (flat_map base_of l.outputs)
