-- The claim that breaks or passes is one of the tape's.
use Rattle.std.proofs.Common.{◌≡◌, ℕ, zero, suc, ◌<◌, ◌≤◌, List, [], ◌∷◌, Bool, inl, inr, length, take, slice_get, Some, refl, arith}
use Rattle.std.proofs.lemmas.Option.{slice_get_within}
use Rattle.revs_tape.specs.Tapes.{TapeView}
use Rattle.claim_assumptions.specs.Assumptions.{assuming}
use Rattle.claim_assumptions.specs.Settling.{AssumesSome, BreaksAssuming, PassesAssuming}
use Rattle.claim_assumptions.proofs.MetLemmas.{claims_are_as_many}

pub found : {A : Type 0} (xs : List A) (k : ℕ) → k < length xs → (x : A) × (slice_get xs k ≡ Some x)
found [] k low = absurd (omega (arith, low))
found (x ∷ xs) zero low = (x, refl)
found (x ∷ xs) (suc k) low = found xs k (omega (arith, low))

no_longer : {A : Type 0} (n : ℕ) (xs : List A) → length (take n xs) ≤ length xs
no_longer zero xs = omega arith
no_longer (suc n) [] = omega arith
no_longer (suc n) (x ∷ xs) = let rest = no_longer n xs in omega arith

pub breaks_inside : (t : TapeView) (assumed limit number : ℕ) (input : List Bool) → BreaksAssuming t assumed limit number input → number < length t.claims
breaks_inside t assumed limit number input b =
    omega (arith, slice_get_within (assuming assumed t).claims number b.breaks.claim b.breaks.is_claim, claims_are_as_many t assumed)

pub some_inside : (t : TapeView) (assumed : ℕ) → AssumesSome t assumed → 0 < length t.claims
some_inside t assumed some = omega (arith, some, no_longer assumed t.claims)

pub passes_inside : (t : TapeView) (assumed limit number : ℕ) → PassesAssuming t assumed limit number → number < length t.claims
passes_inside t assumed limit number p = elim p as (λ _. number < length t.claims) [
  | inl meeting ↦ omega (arith, meeting.last, no_longer assumed t.claims)
  | inr further ↦ omega (
    arith,
    slice_get_within (assuming assumed t).claims number further.passes.claim further.passes.is_claim,
    claims_are_as_many t assumed,
  )
]
