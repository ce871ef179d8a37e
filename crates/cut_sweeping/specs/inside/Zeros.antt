-- Sums that are 0.
use Rattle.std.specs.List.{AllByRecursion}
use Rattle.product_sums.specs.Products.{ProductsView}
use Rattle.sum_cuts.specs.Cuts.{IsZero}
use Rattle.cut_sweeping.specs.declared.zeros.Zeros.{Zeros}

-- each of them is 0 wherever atoms have the values of their products
pub record AreZeros (t : ProductsView) (zeros : Zeros) : Type 0 where
  pub each : AllByRecursion (IsZero t) zeros.forms.items
