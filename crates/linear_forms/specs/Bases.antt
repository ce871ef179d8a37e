-- Factors over a basis of forms.
use Rattle.std.specs.Prelude.{◌≡◌, ℕ, Bool, false, List, [], length, slice_index_or}
use Rattle.linear_forms.specs.declared.pairs.Factor.{Factor}
use Rattle.linear_forms.specs.Forms.{FormView, form_value}
use Rattle.linear_forms.specs.Pairs.{factor_value}

-- the sum of nothing
abbrev pub no_form : FormView
no_form = record { one = false; terms = [] }

-- the bit of each member of a basis
abbrev pub member_value : List FormView → (ℕ → Bool) → ℕ → Bool
member_value members atom place = form_value atom (slice_index_or members place no_form)

-- the form is the factor over the basis
abbrev pub IsFactorOf : List FormView → FormView → Factor → Type 0
IsFactorOf members form factor =
    (atom : ℕ → Bool)
    → factor_value (length members) (member_value members atom) factor ≡ form_value atom form
