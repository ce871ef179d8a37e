-- The claims of a tape on all inputs, one after another, within a limit on the functions on which
-- they rest.
use Rattle.std.specs.Prelude.{◌≡◌, ℕ, ◌+◌, Bool, List, length, take, slice_get, Some}
use Rattle.std.specs.List.{AllByRecursion}
use Rattle.revs_tape.specs.declared.tape.Claim.{Claim}
use Rattle.revs_tape.specs.ClaimFunctions.{HasAtMost, HasMore}
use Rattle.revs_tape.specs.Claims.{HoldsEverywhere, IsLeastBreaking}
use Rattle.revs_tape.specs.Tapes.{TapeView}
use Rattle.claim_check.specs.declared.fault.ClaimFault.{ClaimFault}
use Rattle.claim_check.specs.declared.fault.ClaimFault.TheVariants.{Broken, Diagram, Memory}

-- the claims before this one, counted from 0, hold on all inputs
abbrev pub HoldBefore : TapeView → ℕ → Type 0
HoldBefore t number = AllByRecursion (HoldsEverywhere t) (take number t.claims)

-- Every claim holds on all inputs, and the functions on which they rest are within the limit.
pub record HoldWithin (t : TapeView) (limit : ℕ) : Type 0 where
  pub all : AllByRecursion (HoldsEverywhere t) t.claims
  pub few : HasAtMost t (length t.claims) limit

-- This claim, counted from 0, is the first that fails on some input, and first on this one. The
-- functions on which the claims through it rest are within the limit.
pub record BreaksOn (t : TapeView) (limit number : ℕ) (input : List Bool) : Type 0 where
  pub claim : Claim
  pub is_claim : slice_get t.claims number ≡ Some claim
  pub before : HoldBefore t number
  pub least : IsLeastBreaking t claim input
  pub few : HasAtMost t (number + 1) limit

-- The claims before this one hold on all inputs. The functions on which they rest are within the
-- limit, and with those of this claim they are not.
pub record PassesAt (t : TapeView) (limit number : ℕ) : Type 0 where
  pub claim : Claim
  pub is_claim : slice_get t.claims number ≡ Some claim
  pub before : HoldBefore t number
  pub few : HasAtMost t number limit
  pub more : HasMore t (number + 1) limit

-- why claims are not settled; want of memory has no cause
abbrev pub IsClaimFault : TapeView → ℕ → ClaimFault → Type 0
IsClaimFault t limit (Broken number input) = BreaksOn t limit number input
IsClaimFault t limit (Diagram number nodes) = PassesAt t limit number × (nodes ≡ limit)
IsClaimFault t limit (Memory _) = Unit {0}

-- ---- the law: the claims of a tape end in one way

pub record EndInOneWay (t : TapeView) (limit : ℕ) : Type 0 where
  pub no_break : HoldWithin t limit → (number : ℕ) (input : List Bool)
      → BreaksOn t limit number input → ⊥
  pub no_passing : HoldWithin t limit → (number : ℕ) → PassesAt t limit number → ⊥
  pub never_both : (number other : ℕ) (input : List Bool)
      → BreaksOn t limit number input → PassesAt t limit other → ⊥
  pub one_break : (number other : ℕ) (input another : List Bool)
      → BreaksOn t limit number input → BreaksOn t limit other another
      → (number ≡ other) × (input ≡ another)
  pub one_passing : (number other : ℕ) → PassesAt t limit number → PassesAt t limit other
      → number ≡ other

abbrev pub ClaimsEndInOneWay : Type 0
ClaimsEndInOneWay = (t : TapeView) (limit : ℕ) → EndInOneWay t limit
