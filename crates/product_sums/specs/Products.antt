-- Products of exclusive sums of atoms, and the atoms that stand for such products.
use Rattle.std.specs.Prelude.{◌≡◌, ℕ, ◌+◌, ◌<◌, Bool, ◌&&◌, List, ◌++◌, length}
use Rattle.list_facts.specs.Lists.{AllFrom}
use Rattle.linear_forms.specs.Forms.{FormView, form_value}

-- ---- the table

-- a product of two sums
pub record ProductView : Type 0 where
  pub first : FormView
  pub second : FormView

-- the atoms below `given` stand for no product; atom given + i stands for the i-th product
pub record ProductsView : Type 0 where
  pub given : ℕ
  pub made : List ProductView

abbrev pub atom_count : ProductsView → ℕ
atom_count t = t.given + length t.made

-- ---- values

abbrev pub product_value : (ℕ → Bool) → ProductView → Bool
product_value atom p = form_value atom p.first && form_value atom p.second

-- each atom that was made has the value of its product
abbrev pub Respects : ProductsView → (ℕ → Bool) → Type 0
Respects t atom = AllFrom (λ number p. atom number ≡ product_value atom p) t.given t.made

-- a sum is the product of two others, wherever atoms have the values of their products
abbrev pub IsProduct : ProductsView → FormView → FormView → FormView → Type 0
IsProduct t f g product =
    (atom : ℕ → Bool) → Respects t atom
    → form_value atom product ≡ (form_value atom f && form_value atom g)

-- both give the atoms below a number the same values
abbrev pub AgreeBelow : ℕ → (ℕ → Bool) → (ℕ → Bool) → Type 0
AgreeBelow n u v = (a : ℕ) → a < n → u a ≡ v a

-- the atoms that stand for no product determine the sum's value
abbrev pub IsDetermined : ProductsView → FormView → Type 0
IsDetermined t f =
    (u v : ℕ → Bool) → Respects t u → Respects t v → AgreeBelow t.given u v
    → form_value u f ≡ form_value v f

-- whatever the atoms are that stand for no product, all atoms have values
abbrev pub HasValuations : ProductsView → Type 0
HasValuations t =
    (base : ℕ → Bool) → (atom : ℕ → Bool) × Respects t atom × AgreeBelow t.given base atom

-- ---- growth

-- no atom has come to stand for another product
pub record Extends (old now : ProductsView) : Type 0 where
  pub given : now.given ≡ old.given
  pub more : List ProductView
  pub made : now.made ≡ old.made ++ more
