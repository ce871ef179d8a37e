-- What the two tapes say, in words of the claims of the tape that they are made of.
use Rattle.std.specs.Prelude.{◌≡◌, ◌↔◌, ℕ, Bool, true, List, [], ◌∷◌, length, slice_get, Some, take}
use Rattle.std.specs.List.{AllByRecursion}
use Rattle.revs_tape.specs.declared.tape.Claim.{Claim}
use Rattle.revs_tape.specs.Claims.{IsInputOf}
use Rattle.revs_tape.specs.Tapes.{TapeView, IsTape, Holds, outputs_on}
use Rattle.revs_tape.specs.VariableOrders.{IsBefore, variable_order}
use Rattle.claim_check.specs.Claims.{BreaksOn, HoldWithin}
use Rattle.claim_assumptions.specs.Assumptions.{AreMetOn, assuming, premise}
use Rattle.claim_assumptions.specs.Settling.{IsLeastMet, IsVacuous}

-- ---- the bit that the assumed claims are met

-- the one output of the tape of the assumed claims is 1 exactly where they hold
pub record TellsWhereMet (t : TapeView) (assumed : ℕ) (input : List Bool) : Type 0 where
  pub bit : Bool
  pub is : outputs_on (premise assumed t) input ≡ bit ∷ []
  pub met : (bit ≡ true) ↔ AreMetOn t assumed input

-- The law: on every input that bit tells whether the assumed claims hold there.
abbrev pub AssumptionsAreMet : Type 0
AssumptionsAreMet = (t : TapeView) → IsTape t → (assumed : ℕ) (input : List Bool)
    → TellsWhereMet t assumed input

-- ---- the claims on the inputs that are looked at

-- the claim with this number, of the tape that looks at these inputs alone: it has the place of the
-- tape's claim, and holds where that holds or the assumed ones do not
pub record IsRestricted (t : TapeView) (assumed number : ℕ) (c : Claim) : Type 0 where
  pub claim : Claim
  pub is_claim : slice_get (assuming assumed t).claims number ≡ Some claim
  pub place : claim.at ≡ c.at
  pub says : (input : List Bool)
      → (Holds (assuming assumed t) input claim ↔ (AreMetOn t assumed input → Holds t input c))

-- The law: each claim is so, and there are as many.
abbrev pub ClaimsAreRestricted : Type 0
ClaimsAreRestricted = (t : TapeView) → IsTape t → (assumed number : ℕ) (c : Claim)
    → slice_get t.claims number ≡ Some c → IsRestricted t assumed number c

abbrev pub ClaimsAreAsMany : Type 0
ClaimsAreAsMany = (t : TapeView) (assumed : ℕ)
    → length (assuming assumed t).claims ≡ length t.claims

-- ---- what settling says

-- the claim holds on every input that is looked at
abbrev pub HoldsWhereMet : TapeView → ℕ → Claim → Type 0
HoldsWhereMet t assumed claim = (input : List Bool) → IsInputOf t input → AreMetOn t assumed input
    → Holds t input claim

-- this input is looked at, and none before it
pub record IsLeastLooked (t : TapeView) (assumed : ℕ) (input : List Bool) : Type 0 where
  pub is_input : IsInputOf t input
  pub met : AreMetOn t assumed input
  pub least : (other : List Bool) → IsInputOf t other
      → IsBefore (variable_order t.params) other input → ¬ AreMetOn t assumed other

-- the claim fails on this input, which is looked at, and on none before it that is
pub record IsLeastBreakingMet (t : TapeView) (assumed : ℕ) (claim : Claim) (input : List Bool)
    : Type 0 where
  pub is_input : IsInputOf t input
  pub met : AreMetOn t assumed input
  pub fails : ¬ Holds t input claim
  pub least : (other : List Bool) → IsInputOf t other
      → IsBefore (variable_order t.params) other input → AreMetOn t assumed other
      → Holds t other claim

-- this claim, counted from 0, is the first that fails on an input that is looked at, and first on
-- this one
pub record IsFirstBreakingMet (t : TapeView) (assumed number : ℕ) (input : List Bool)
    : Type 0 where
  pub claim : Claim
  pub is_claim : slice_get t.claims number ≡ Some claim
  pub before : AllByRecursion (HoldsWhereMet t assumed) (take number t.claims)
  pub least : IsLeastBreakingMet t assumed claim input

-- The law: what is said of the two tapes is so of the claims.
pub record SettlingMeans (t : TapeView) (assumed limit : ℕ) : Type 0 where
  pub hold : HoldWithin (assuming assumed t) limit
      → AllByRecursion (HoldsWhereMet t assumed) t.claims
  pub breaks : (number : ℕ) (input : List Bool) → BreaksOn (assuming assumed t) limit number input
      → IsFirstBreakingMet t assumed number input
  pub looked : (input : List Bool) → IsLeastMet t assumed limit input
      → IsLeastLooked t assumed input
  pub vacuous : IsVacuous t assumed limit → (input : List Bool) → IsInputOf t input
      → ¬ AreMetOn t assumed input

abbrev pub SettlingIsMeant : Type 0
SettlingIsMeant = (t : TapeView) → IsTape t → (assumed limit : ℕ) → SettlingMeans t assumed limit
