use Rattle.std.proofs.Common.{◌≡◌, take}
use Rattle.few_products.proofs.definitions.nodes_of.Given as goal

abbrev pub invariant-loop-node : goal.invariant-loop-node
invariant-loop-node l = l.all.items ≡ take l.node l.graph.nodes
