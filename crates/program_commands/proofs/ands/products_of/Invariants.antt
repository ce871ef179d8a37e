use Rattle.std.proofs.Common.{◌≡◌, take}
use Rattle.sum_graph.specs.Graphs.{products_in}
use Rattle.program_commands.proofs.ands.products_of.Given as goal

abbrev pub invariant-loop-node : goal.invariant-loop-node
invariant-loop-node l = l.count ≡ products_in (take l.node l.graph.nodes)
