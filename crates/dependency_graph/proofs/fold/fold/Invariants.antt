use Rattle.std.proofs.Common.{◌≡◌, ◌≤◌, length, drop}
use Rattle.dependency_graph.specs.Folds.{folded_by, nothing_folded}
use Rattle.dependency_graph.proofs.fold.fold.Given as goal

abbrev pub invariant-loop-entry : goal.invariant-loop-entry
invariant-loop-entry l =
    (folded_by l.folding (drop l.entry-index l.tape.entries) ≡ folded_by nothing_folded l.tape.entries) × (length l.folding.nodes ≤ l.entry-index)
