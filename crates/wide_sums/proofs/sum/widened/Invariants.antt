use Rattle.std.proofs.Common.{◌≡◌, take}
use Rattle.wide_sums.proofs.sum.widened.Given as goal

abbrev pub invariant-loop-product : goal.invariant-loop-product
invariant-loop-product l = l.wide.items ≡ take l.product-index l.products
