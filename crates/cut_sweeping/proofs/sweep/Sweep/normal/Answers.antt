use Rattle.std.proofs.Common.{subst}
use Rattle.product_sums.specs.Products.{ProductsView}
use Rattle.sum_cuts.specs.Cuts.{AreEqualSums}
use Rattle.cut_sweeping.proofs.sweep.Sweep.normal.Goals as goal

pub returns : goal.returns
returns c =
    subst (λ (t : ProductsView). AreEqualSums t c.args.form.now c.in_ok-normal.field-0) c.self.view_is
    (c.in_ok-normal.ensures c.self.inside.products c.self.invariant.zeros)
