use Rattle.std.proofs.Common.{take}
use Rattle.std.specs.List.{AllByRecursion}
use Rattle.bit_sums.specs.Sums.{IsProductOver}
use Rattle.sum_graph.specs.Graphs.{is_known}
use Rattle.few_products.proofs.definitions.are_known_products.Given as goal

abbrev pub invariant-loop-product : goal.invariant-loop-product
invariant-loop-product l = AllByRecursion (IsProductOver (is_known l.inputs l.nodes)) (take l.product-index l.products)
