use Rattle.product_sums.specs.Products.{ProductsView}
use Rattle.sum_cuts.specs.Cuts.{AreEqualSums}
use Rattle.cut_sweeping.specs.inside.Zeros.{AreZeros}
use Rattle.cut_sweeping.proofs.zeros.Zeros.normal.Given as goal

abbrev pub invariant-loop-step : goal.invariant-loop-step
invariant-loop-step l = (t : ProductsView) → AreZeros t l.self → AreEqualSums t l.form l.sum
