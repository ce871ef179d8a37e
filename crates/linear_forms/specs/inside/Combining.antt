-- Sums of the members of a set.
use Rattle.std.specs.Prelude.{◌≡◌, ℕ, Bool, ◌&&◌, List}
use Rattle.std.specs.Bool.{xor}
use Rattle.linear_forms.specs.Sums.{xor_below}
use Rattle.linear_forms.specs.Pairs.{is_in}
use Rattle.linear_forms.specs.Forms.{FormView, form_value}
use Rattle.linear_forms.specs.Bases.{member_value}

-- the form is the sum of those of the first members that are in the set
abbrev pub IsCombined : List FormView → ℕ → ℕ → FormView → Type 0
IsCombined members set count form =
    (atom : ℕ → Bool) → form_value atom form
    ≡ xor_below count (λ i. is_in set i && member_value members atom i)

-- the form is a sum with this member, where it is in the set
abbrev pub HasMember : FormView → FormView → ℕ → ℕ → FormView → Type 0
HasMember sum member set place form =
    (atom : ℕ → Bool) → form_value atom form
    ≡ xor (is_in set place && form_value atom member) (form_value atom sum)
