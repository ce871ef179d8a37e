-- Cuts: a few sums, and the functions of these that other sums are.
use Rattle.std.specs.Prelude.{◌≡◌, ℕ, ◌≤◌, Bool, false, ◌&&◌, List, length, map}
use Rattle.std.specs.List.{AllByRecursion}
use Rattle.linear_forms.specs.Forms.{FormView, form_value}
use Rattle.product_sums.specs.Products.{ProductsView, Respects}
use Rattle.sum_cuts.specs.declared.cut.Cut.{Cut}
use Rattle.sum_cuts.specs.declared.cut.Function.{Function}
use Rattle.sum_cuts.specs.Tables.{row_of, table_bit}

-- the row in which the sums of a cut have their values
abbrev pub cut_row : List FormView → (ℕ → Bool) → ℕ
cut_row sums atom = row_of (map (form_value atom) sums)

-- the table gives the sum, wherever atoms have the values of their products
abbrev pub IsOverCut : ProductsView → List FormView → List ℕ → FormView → Type 0
IsOverCut t sums words f =
    (atom : ℕ → Bool) → Respects t atom
    → table_bit words (cut_row sums atom) ≡ form_value atom f

-- and so for each function of a cut of at most twelve sums
pub record AreOverCut (t : ProductsView) (cut : Cut) : Type 0 where
  pub few : length cut.sums.items ≤ 12
  pub each : AllByRecursion (λ (f : Function). IsOverCut t cut.sums.items f.table.words f.form)
      cut.functions.items

-- the table gives the product of two sums
abbrev pub IsProductOverCut : ProductsView → List FormView → List ℕ → FormView → FormView → Type 0
IsProductOverCut t sums words f g =
    (atom : ℕ → Bool) → Respects t atom
    → table_bit words (cut_row sums atom) ≡ (form_value atom f && form_value atom g)

-- two sums have one value, wherever atoms have the values of their products
abbrev pub AreEqualSums : ProductsView → FormView → FormView → Type 0
AreEqualSums t f g = (atom : ℕ → Bool) → Respects t atom → form_value atom f ≡ form_value atom g

-- a sum is 0 so
abbrev pub IsZero : ProductsView → FormView → Type 0
IsZero t f = (atom : ℕ → Bool) → Respects t atom → form_value atom f ≡ false

-- THE LAW: over one cut, equal functions make equal sums
abbrev pub CutsDecide : Type 0
CutsDecide =
    (t : ProductsView) (sums : List FormView) (words : List ℕ) (f g : FormView)
    → IsOverCut t sums words f → IsOverCut t sums words g → AreEqualSums t f g
