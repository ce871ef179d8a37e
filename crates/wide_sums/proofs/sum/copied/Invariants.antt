use Rattle.std.proofs.Common.{◌≡◌, take}
use Rattle.wide_sums.proofs.sum.copied.Given as goal

abbrev pub invariant-loop-product : goal.invariant-loop-product
invariant-loop-product l = l.all.items ≡ take l.product-index l.products
