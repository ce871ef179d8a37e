-- Regions.
use Rattle.std.specs.Prelude.{List, Option, IfSome}
use Rattle.std.specs.List.{AllByRecursion}
use Rattle.product_sums.specs.Products.{ProductsView}
use Rattle.sum_cuts.specs.Cuts.{AreOverCut}
use Rattle.cut_sweeping.specs.declared.regions.Region.{Region}

-- what is said of their functions is true
abbrev pub AreRegions : ProductsView → List Region → Type 0
AreRegions t regions = AllByRecursion (λ (r : Region). AreOverCut t r.cut) regions

-- and so when one was taken out, if any
pub record TakesRegion (t : ProductsView) (rest : List Region) (found : Option Region) : Type 0
  where
    pub left : AreRegions t rest
    pub taken : IfSome found (λ r. AreOverCut t r.cut)
