use Rattle.std.proofs.Common.{◌≡◌, ◌+◌, drop, take, sum_by}
use Rattle.std.specs.List.{AllByRecursion}
use Rattle.bit_sums.specs.Products.{IsProduct}
use Rattle.sum_toggles.specs.Toggles.{product_weight}
use Rattle.sum_toggles.proofs.weight.weight_within.Given as goal

abbrev pub invariant-loop-product : goal.invariant-loop-product
invariant-loop-product l =
    (l.left + (l.bits + sum_by product_weight l.product-items) ≡ l.room + sum_by product_weight (drop l.product-index l.product-items))
    × AllByRecursion IsProduct (take l.product-index l.product-items)
