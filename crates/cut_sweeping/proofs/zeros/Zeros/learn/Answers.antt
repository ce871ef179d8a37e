use Rattle.std.proofs.Common.{IfSome, Option, subst}
use Rattle.linear_forms.specs.Forms.{FormView}
use Rattle.product_sums.specs.Products.{ProductsView}
use Rattle.sum_cuts.specs.Cuts.{AreOverCut, IsZero}
use Rattle.cut_sweeping.specs.inside.Zeros.{AreZeros}
use Rattle.cut_sweeping.proofs.zeros.Zeros.learn.Goals as goal

pub returns-in-Some : goal.returns-in-Some
returns-in-Some c t over are =
    let zero = subst (λ (found : Option FormView). IfSome found (λ form. (t : ProductsView) → AreOverCut t c.args.cut.now
    → AreZeros t c.args.self.now → IsZero t form)) c.in-Some.is c.in_ok-zero.ensures in
    c.put.ensures t (zero t over are) are
