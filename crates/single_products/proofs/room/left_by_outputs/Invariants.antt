use Rattle.std.proofs.Common.{◌≡◌, ◌+◌, take}
use Rattle.sum_graph.specs.Graphs.{products_in}
use Rattle.single_products.proofs.room.left_by_outputs.Given as goal

abbrev pub invariant-loop-sum : goal.invariant-loop-sum
invariant-loop-sum l = l.left + products_in (take l.sum-index l.sums) ≡ l.fn.left
