use Rattle.sum_graph.proofs.graph.SumGraph.new.Goals as goal

pub last_uses-requires : goal.last_uses-requires
last_uses-requires c = rw c.deref.ensures.value c.requires.few_nodes

pub invariant_of-result : goal.invariant_of-result
invariant_of-result c = (c.requires, rw (c.deref.ensures.value, c.deref-2.ensures.value) at c.in_ok-last_uses.ensures)
