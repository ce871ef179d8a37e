use Rattle.std.proofs.Common.{◌≡◌, ◌+◌, take}
use Rattle.sum_graph.specs.Graphs.{products_in}
use Rattle.single_products.proofs.room.left_by_nodes.Given as goal

abbrev pub invariant-loop-n : goal.invariant-loop-n
invariant-loop-n l = l.left + products_in (take l.n l.graph.nodes) ≡ l.fn.left
