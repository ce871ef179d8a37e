use Rattle.std.proofs.Common.{◌≡◌, map, take}
use Rattle.sum_graph.specs.Plain.{plain_sum}
use Rattle.sum_graph.proofs.plain.plain_nodes.Given as goal

abbrev pub invariant-loop-k : goal.invariant-loop-k
invariant-loop-k l = l.nodes.items ≡ map plain_sum (take l.k l.graph.nodes)
