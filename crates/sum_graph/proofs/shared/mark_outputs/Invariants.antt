use Rattle.sum_graph.specs.inside.Marks.{AreOutputsMarked}
use Rattle.sum_graph.proofs.shared.mark_outputs.Given as goal

abbrev pub invariant-loop-sig : goal.invariant-loop-sig
invariant-loop-sig l = AreOutputsMarked l.graph l.sig-index l.uses.items
