-- Sums as functions of a cut of any number of sums, by the numbers of a decision diagram.
use Rattle.std.specs.Prelude.{◌≡◌, ℕ, Bool, List, map}
use Rattle.std.specs.List.{AllByRecursion}
use Rattle.list_facts.specs.Bits.{bit_of}
use Rattle.decision_diagram.specs.Diagrams.{Triple, IsNumber, function_of}
use Rattle.linear_forms.specs.Forms.{FormView, form_value}
use Rattle.product_sums.specs.Products.{ProductsView, Respects}
use Rattle.sum_cuts.specs.declared.wide.Numbered.{Numbered}
use Rattle.sum_cuts.specs.declared.wide.WideCut.{WideCut}

-- the variables are the sums of the cut
abbrev pub cut_values : List FormView → (ℕ → Bool) → ℕ → Bool
cut_values sums atom = bit_of (map (form_value atom) sums)

-- the function of the number is the sum, wherever atoms have the values of their products
pub record IsNumbered (t : ProductsView) (sums : List FormView) (nodes : List Triple) (f : Numbered)
    : Type 0 where
  pub known : IsNumber nodes f.number
  pub is : (atom : ℕ → Bool) → Respects t atom
      → function_of nodes f.number (cut_values sums atom) ≡ form_value atom f.form

abbrev pub AreNumbered : ProductsView → List FormView → List Triple → List Numbered → Type 0
AreNumbered t sums nodes fs = AllByRecursion (IsNumbered t sums nodes) fs

-- and so for all functions of a cut
abbrev pub AreWide : ProductsView → WideCut → Type 0
AreWide t cut = AreNumbered t cut.sums.items cut.diagram.nodes cut.functions.items

-- and for one more
pub record AreWideWith (t : ProductsView) (cut : WideCut) (f : Numbered) : Type 0 where
  pub all : AreWide t cut
  pub own : IsNumbered t cut.sums.items cut.diagram.nodes f
