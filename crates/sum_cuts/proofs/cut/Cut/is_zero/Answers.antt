use Rattle.std.proofs.Common.{IfSome, List, ℕ, Option, subst}
use Rattle.product_sums.specs.Products.{ProductsView}
use Rattle.sum_cuts.specs.Cuts.{AreOverCut, IsOverCut}
use Rattle.sum_cuts.specs.declared.table.Table.{Table}
use Rattle.sum_cuts.proofs.CutLemmas.{zero_decided}
use Rattle.sum_cuts.proofs.cut.Cut.is_zero.Goals as goal

pub returns : goal.returns
returns c same t are =
    let cut = c.args.self.now in
    let form = c.args.form.now in
    let over = subst (λ (found : Option Table). IfSome found (λ table. (t : ProductsView) → AreOverCut t cut
    → IsOverCut t cut.sums.items table.words form)) c.in-Some.is c.in_ok-table.ensures in
    zero_decided t cut.sums.items c.none.result.words form are.few c.none.ensures
    (subst (λ (words : List ℕ). IsOverCut t cut.sums.items words form) (c.is_same.ensures same) (over t are))
