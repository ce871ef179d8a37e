-- Claims on all inputs, and the least input that breaks one.
use Rattle.std.specs.Prelude.{◌≡◌, ◌⊎◌, Bool, List, length, sum}
use Rattle.revs_tape.specs.declared.tape.Claim.{Claim}
use Rattle.revs_tape.specs.Tapes.{TapeView, Holds}
use Rattle.revs_tape.specs.VariableOrders.{IsBefore, variable_order}

-- bits for the inputs of a tape
abbrev pub IsInputOf : TapeView → List Bool → Type 0
IsInputOf t input = length input ≡ sum t.params

-- The claim holds on every input.
abbrev pub HoldsEverywhere : TapeView → Claim → Type 0
HoldsEverywhere t claim = (input : List Bool) → IsInputOf t input → Holds t input claim

-- The claim fails on this input, and on none before it.
pub record IsLeastBreaking (t : TapeView) (claim : Claim) (input : List Bool) : Type 0 where
  pub is_input : IsInputOf t input
  pub fails : ¬ Holds t input claim
  pub least : (other : List Bool) → IsInputOf t other
      → IsBefore (variable_order t.params) other input
      → Holds t other claim

-- One input is the least that breaks the claim, and no other is.
pub record HasOneLeastBreaking (t : TapeView) (claim : Claim) : Type 0 where
  pub input : List Bool
  pub is : IsLeastBreaking t claim input
  pub only : (other : List Bool) → IsLeastBreaking t claim other → other ≡ input

-- The law: a claim holds everywhere, or one input is the least that breaks it; not both, since it
-- fails there.
abbrev pub ClaimsAreSettled : Type 0
ClaimsAreSettled =
    (t : TapeView) (claim : Claim) → HoldsEverywhere t claim ⊎ HasOneLeastBreaking t claim
