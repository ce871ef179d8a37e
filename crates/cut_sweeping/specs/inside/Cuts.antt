-- What cuts tell.
use Rattle.product_sums.specs.Products.{ProductsView}
use Rattle.cut_sweeping.specs.declared.cuts.Cuts.{Cuts}
use Rattle.cut_sweeping.specs.inside.Regions.{AreRegions}
use Rattle.cut_sweeping.specs.inside.Zeros.{AreZeros}

-- what is said of functions of cuts is true, and so are the sums that are 0
pub record HoldsCuts (t : ProductsView) (cuts : Cuts) : Type 0 where
  pub regions : AreRegions t cuts.regions.items
  pub zeros : AreZeros t cuts.zeros
