use Rattle.product_sums.specs.Products.{ProductsView}
use Rattle.sum_cuts.specs.Cuts.{AreOverCut}
use Rattle.cut_sweeping.specs.inside.Zeros.{AreZeros}
use Rattle.cut_sweeping.proofs.zeros.Zeros.learn_all.Given as goal

abbrev pub invariant-loop-relation : goal.invariant-loop-relation
invariant-loop-relation l = (t : ProductsView) → AreOverCut t l.cut → AreZeros t l.initial.self → AreZeros t l.self
