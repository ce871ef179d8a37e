-- The records of a table.
use Rattle.std.specs.Prelude.{◌≡◌, ◌⊎◌, ℕ, Bool, ◌&&◌, List, [], ◌∷◌, cond}
use Rattle.std.specs.List.{AllByRecursion}
use Rattle.linear_forms.specs.Forms.{FormView, form_value}
use Rattle.product_sums.specs.declared.known.Known.{Known}
use Rattle.product_sums.specs.Products.{AgreeBelow, HasValuations, ProductView, ProductsView, Respects, atom_count}

-- the product is the sum that is known as such
abbrev pub IsTrueOf : (ℕ → Bool) → Known → Type 0
IsTrueOf atom k = form_value atom k.value ≡ (form_value atom k.first && form_value atom k.second)

abbrev pub AreTrue : List Known → (ℕ → Bool) → Type 0
AreTrue known atom = AllByRecursion (IsTrueOf atom) known

-- these are the factors, in one order or the other
abbrev pub HasFactors : Known → FormView → FormView → Type 0
HasFactors k f g = ((k.first ≡ f) × (k.second ≡ g)) ⊎ ((k.first ≡ g) × (k.second ≡ f))

-- the products for which an atom was made
abbrev pub made_of : List Known → List ProductView
made_of [] = []
made_of (k ∷ ks) =
    cond k.made (record { first = k.first; second = k.second } ∷ made_of ks) (made_of ks)

abbrev pub view_of : ℕ → List Known → ProductsView
view_of given known = record { given = given; made = made_of known }

-- no atom but those of the table counts
abbrev pub IsLocal : ProductsView → Type 0
IsLocal t = (u v : ℕ → Bool) → AgreeBelow (atom_count t) u v → Respects t u → Respects t v

-- so many atoms are there, and what is known is true
pub record IsTable (given : ℕ) (known : List Known) (atoms : ℕ) : Type 0 where
  pub count : atoms ≡ atom_count (view_of given known)
  pub valuations : HasValuations (view_of given known)
  pub local : IsLocal (view_of given known)
  pub true_of : (atom : ℕ → Bool) → Respects (view_of given known) atom → AreTrue known atom
