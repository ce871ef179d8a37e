-- The claims of a tape of which the first so many are taken for granted: where they hold, and what
-- stops them. Only the inputs on which the assumed claims hold are looked at.
use Rattle.std.specs.Prelude.{◌≡◌, ℕ, ◌+◌, ◌*◌, ◌≤◌, ◌⊎◌, Bool, List, length}
use Rattle.revs_tape.specs.declared.limits.TheConstants.{MOST_CLAIMS, MOST_WRITES}
use Rattle.revs_tape.specs.Tapes.{TapeView}
use Rattle.claim_check.specs.Claims.{HoldWithin, BreaksOn, PassesAt}
use Rattle.claim_assumptions.specs.Assumptions.{assumed_of, assuming, premise}
use Rattle.claim_assumptions.specs.declared.fault.AssumptionFault.{AssumptionFault}
use Rattle.claim_assumptions.specs.declared.fault.AssumptionFault.TheVariants as faults

-- the tape has room for the writes that say on which inputs its claims are looked at
abbrev pub HasRoom : TapeView → Type 0
HasRoom t = length t.entries + 2 + 2 * MOST_CLAIMS ≤ MOST_WRITES

-- some claim is taken for granted
abbrev pub AssumesSome : TapeView → ℕ → Type 0
AssumesSome t assumed = 1 ≤ length (assumed_of t assumed)

-- This is the least input on which the assumed claims hold. The functions on which these rest
-- together are within the limit.
abbrev pub IsLeastMet : TapeView → ℕ → ℕ → List Bool → Type 0
IsLeastMet t assumed limit input = BreaksOn (premise assumed t) limit 0 input

-- where some claim is taken for granted, some input meets those that are
pub record CanBeMet (t : TapeView) (assumed limit : ℕ) : Type 0 where
  pub on : AssumesSome t assumed → (input : List Bool) × IsLeastMet t assumed limit input

-- some claim is taken for granted, and no input meets those that are
pub record IsVacuous (t : TapeView) (assumed limit : ℕ) : Type 0 where
  pub some : AssumesSome t assumed
  pub none : HoldWithin (premise assumed t) limit

-- The assumed claims can be met, and every other claim holds where they are.
pub record HoldAssuming (t : TapeView) (assumed limit : ℕ) : Type 0 where
  pub meets : CanBeMet t assumed limit
  pub hold : HoldWithin (assuming assumed t) limit

-- The assumed claims can be met. This claim, counted from 0, is the first that fails on an input
-- that meets them, and first on this one.
pub record BreaksAssuming (t : TapeView) (assumed limit number : ℕ) (input : List Bool)
    : Type 0 where
  pub meets : CanBeMet t assumed limit
  pub breaks : BreaksOn (assuming assumed t) limit number input

-- The functions on which the assumed claims rest together are more than the limit. This is the last
-- of these claims, counted from 0.
pub record PassesMeeting (t : TapeView) (assumed limit number : ℕ) : Type 0 where
  pub last : number + 1 ≡ length (assumed_of t assumed)
  pub passes : PassesAt (premise assumed t) limit 0

-- The assumed claims can be met. This claim, counted from 0, is the first with which the functions
-- on which the claims rest are more than the limit.
pub record PassesBehind (t : TapeView) (assumed limit number : ℕ) : Type 0 where
  pub meets : CanBeMet t assumed limit
  pub passes : PassesAt (assuming assumed t) limit number

-- with this claim the limit is passed, where the assumed ones are put together or behind them
abbrev pub PassesAssuming : TapeView → ℕ → ℕ → ℕ → Type 0
PassesAssuming t assumed limit number =
    PassesMeeting t assumed limit number ⊎ PassesBehind t assumed limit number

-- why claims are not settled; want of memory has no cause
abbrev pub IsAssumptionFault : TapeView → ℕ → ℕ → AssumptionFault → Type 0
IsAssumptionFault t assumed limit faults.NoInput = IsVacuous t assumed limit
IsAssumptionFault t assumed limit (faults.Broken number input) =
    BreaksAssuming t assumed limit number input
IsAssumptionFault t assumed limit (faults.Diagram number nodes) =
    PassesAssuming t assumed limit number × (nodes ≡ limit)
IsAssumptionFault t assumed limit (faults.Memory _) = Unit {0}

-- ---- the law: the claims end in one way

pub record EndInOneWay (t : TapeView) (assumed limit : ℕ) : Type 0 where
  pub not_vacuous : CanBeMet t assumed limit → IsVacuous t assumed limit → ⊥
  pub no_break : HoldAssuming t assumed limit → (number : ℕ) (input : List Bool)
      → BreaksAssuming t assumed limit number input → ⊥
  pub no_passing : HoldAssuming t assumed limit → (number : ℕ)
      → PassesAssuming t assumed limit number → ⊥
  pub vacuous_or_passing : IsVacuous t assumed limit → (number : ℕ)
      → PassesAssuming t assumed limit number → ⊥
  pub never_both : (number other : ℕ) (input : List Bool)
      → BreaksAssuming t assumed limit number input → PassesAssuming t assumed limit other → ⊥
  pub one_break : (number other : ℕ) (input another : List Bool)
      → BreaksAssuming t assumed limit number input
      → BreaksAssuming t assumed limit other another
      → (number ≡ other) × (input ≡ another)
  pub one_passing : (number other : ℕ) → PassesAssuming t assumed limit number
      → PassesAssuming t assumed limit other → number ≡ other

abbrev pub AssumptionsEndInOneWay : Type 0
AssumptionsEndInOneWay = (t : TapeView) (assumed limit : ℕ) → EndInOneWay t assumed limit
