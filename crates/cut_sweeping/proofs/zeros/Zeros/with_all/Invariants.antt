use Rattle.product_sums.specs.Products.{ProductsView}
use Rattle.sum_cuts.specs.Cuts.{AreEqualSums}
use Rattle.cut_sweeping.specs.inside.Zeros.{AreZeros}
use Rattle.cut_sweeping.proofs.zeros.Zeros.with_all.Given as goal

abbrev pub invariant-loop-place : goal.invariant-loop-place
invariant-loop-place l = (t : ProductsView) → AreZeros t l.self → AreEqualSums t l.form l.sum
