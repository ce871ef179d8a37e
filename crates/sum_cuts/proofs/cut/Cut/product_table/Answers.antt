use Rattle.std.proofs.Common.{IfSome, Option, subst}
use Rattle.product_sums.specs.Products.{ProductsView}
use Rattle.sum_cuts.specs.Cuts.{AreOverCut, IsOverCut}
use Rattle.sum_cuts.specs.declared.table.Table.{Table}
use Rattle.sum_cuts.proofs.CutLemmas.{times_over}
use Rattle.sum_cuts.proofs.cut.Cut.product_table.Goals as goal

pub returns : goal.returns
returns c t are =
    let cut = c.args.self.now in
    let first = c.args.first.now in
    let second = c.args.second.now in
    let one = subst (λ (found : Option Table). IfSome found (λ table. (t : ProductsView) → AreOverCut t cut
    → IsOverCut t cut.sums.items table.words first)) c.in-Some.is c.in_ok-one.ensures in
    let other = subst (λ (found : Option Table). IfSome found (λ table. (t : ProductsView) → AreOverCut t cut
    → IsOverCut t cut.sums.items table.words second)) c.in-Some-2.is c.in_ok-other.ensures in
    times_over t cut.sums.items c.in-Some.one.words c.in-Some-2.other.words c.times.result.words first second are.few c.times.ensures
    (one t are) (other t are)
