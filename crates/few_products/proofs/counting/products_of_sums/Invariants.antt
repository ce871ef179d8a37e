use Rattle.std.proofs.Common.{◌≡◌, take}
use Rattle.sum_graph.specs.Graphs.{products_in}
use Rattle.few_products.proofs.counting.products_of_sums.Given as goal

abbrev pub invariant-loop-sum : goal.invariant-loop-sum
invariant-loop-sum l = l.count ≡ products_in (take l.sum-index l.sums)
