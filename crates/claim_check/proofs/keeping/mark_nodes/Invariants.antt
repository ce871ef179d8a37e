use Rattle.std.proofs.Common.{◌≡◌, drop, length}
use Rattle.claim_check.specs.inside.Marks.{with_nodes}
use Rattle.claim_check.proofs.keeping.mark_nodes.Given as goal

abbrev pub invariant-loop-k : goal.invariant-loop-k
invariant-loop-k l = (l.marks ≡ with_nodes l.initial.marks l.k (drop l.k l.graph.nodes)) × (length l.marks ≡ length l.graph.nodes)
