use Rattle.sum_graph.specs.inside.Marks.{AreNodesMarked}
use Rattle.sum_graph.proofs.shared.mark_nodes.Given as goal

abbrev pub invariant-loop-k : goal.invariant-loop-k
invariant-loop-k l = AreNodesMarked l.graph l.k l.uses.items
