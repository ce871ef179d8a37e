use Rattle.std.proofs.Common.{subst}
use Rattle.product_sums.specs.Products.{HasValuations}
use Rattle.cut_sweeping.proofs.sweep.Sweep.valuations.Goals as goal

pub returns : goal.returns
returns c = subst HasValuations c.self.view_is c.valuations.ensures
