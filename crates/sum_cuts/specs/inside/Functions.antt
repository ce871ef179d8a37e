-- Functions of a cut, whatever the table of products is.
use Rattle.std.specs.Prelude.{List}
use Rattle.linear_forms.specs.Forms.{FormView}
use Rattle.product_sums.specs.Products.{ProductsView}
use Rattle.sum_cuts.specs.declared.cut.Cut.{Cut}
use Rattle.sum_cuts.specs.declared.cut.Function.{Function}
use Rattle.sum_cuts.specs.Cuts.{AreOverCut, IsOverCut}

-- the function is what it says over any cut of these sums
abbrev pub IsFunction : List FormView → Function → Type 0
IsFunction sums f = (t : ProductsView) → IsOverCut t sums f.table.words f.form

-- and so where the functions of the cut are
abbrev pub IsOver : Cut → Function → Type 0
IsOver cut f =
    (t : ProductsView) → AreOverCut t cut → IsOverCut t cut.sums.items f.table.words f.form
