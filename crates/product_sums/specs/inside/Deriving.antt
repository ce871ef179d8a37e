-- What a derivation collects.
use Rattle.std.specs.Prelude.{◌≡◌, ℕ, Bool, ◌&&◌, List, length}
use Rattle.std.specs.Bool.{xor}
use Rattle.linear_forms.specs.declared.pairs.Pair.{Pair}
use Rattle.linear_forms.specs.Sums.{xor_by}
use Rattle.linear_forms.specs.Pairs.{pair_value}
use Rattle.linear_forms.specs.Forms.{FormView, form_value}
use Rattle.linear_forms.specs.Bases.{member_value}
use Rattle.product_sums.specs.declared.known.Known.{Known}
use Rattle.product_sums.specs.inside.Tables.{AreTrue}

-- the pair is the product of two forms
abbrev pub IsPairOf : List FormView → FormView → FormView → Pair → Type 0
IsPairOf members f g pair =
    (atom : ℕ → Bool) → pair_value (length members) (member_value members atom) pair
    ≡ (form_value atom f && form_value atom g)

-- the pairs have the value of the product and of the sums together, where what is known is true
abbrev pub IsCollected : List Known → FormView → FormView → List FormView → List Pair → FormView
    → Type 0
IsCollected known f g members pairs sums =
    (atom : ℕ → Bool) → AreTrue known atom
    → xor_by (pair_value (length members) (member_value members atom)) pairs
    ≡ xor (form_value atom f && form_value atom g) (form_value atom sums)

-- the sum is the product, where what is known is true
abbrev pub Follows : List Known → FormView → FormView → FormView → Type 0
Follows known f g product =
    (atom : ℕ → Bool) → AreTrue known atom
    → form_value atom product ≡ (form_value atom f && form_value atom g)
