-- The claims end in one way, where the first are taken for granted.
use Rattle.std.proofs.Common.{◌≡◌, ℕ, inl, inr, Bool, List, arith}
use Rattle.revs_tape.specs.Tapes.{TapeView}
use Rattle.claim_check.proofs.OneWayLemmas.{claims_end_in_one_way}
use Rattle.claim_assumptions.specs.Assumptions.{assuming, premise}
use Rattle.claim_assumptions.specs.Settling.{AssumesSome, AssumptionsEndInOneWay, BreaksAssuming, CanBeMet, HoldAssuming, IsVacuous, PassesAssuming}
use Rattle.claim_assumptions.specs.Settling.{PassesMeeting}

module _ (t : TapeView) (assumed limit : ℕ) where
  some_assumed : (number : ℕ) → PassesMeeting t assumed limit number → AssumesSome t assumed
  some_assumed number p = omega (arith, p.last)

  not_vacuous : CanBeMet t assumed limit → IsVacuous t assumed limit → ⊥
  not_vacuous meets v =
      let least = meets.on v.some in
      (claims_end_in_one_way (premise assumed t) limit).no_break v.none 0 least.0 least.1

  not_passing : (number : ℕ) → CanBeMet t assumed limit → PassesMeeting t assumed limit number → ⊥
  not_passing number meets p =
      let least = meets.on (some_assumed number p) in
      (claims_end_in_one_way (premise assumed t) limit).never_both 0 0 least.0 least.1 p.passes

  no_passing : HoldAssuming t assumed limit → (number : ℕ) → PassesAssuming t assumed limit number → ⊥
  no_passing h number p = elim p as (λ _. ⊥) [
    | inl meeting ↦ not_passing number h.meets meeting
    | inr further ↦ (claims_end_in_one_way (assuming assumed t) limit).no_passing h.hold number further.passes
  ]

  vacuous_or_passing : IsVacuous t assumed limit → (number : ℕ) → PassesAssuming t assumed limit number → ⊥
  vacuous_or_passing v number p = elim p as (λ _. ⊥) [
    | inl meeting ↦ (claims_end_in_one_way (premise assumed t) limit).no_passing v.none 0 meeting.passes
    | inr further ↦ not_vacuous further.meets v
  ]

  never_both : (number other : ℕ) (input : List Bool) → BreaksAssuming t assumed limit number input → PassesAssuming t assumed limit other → ⊥
  never_both number other input b p = elim p as (λ _. ⊥) [
    | inl meeting ↦ not_passing other b.meets meeting
    | inr further ↦ (claims_end_in_one_way (assuming assumed t) limit).never_both number other input b.breaks further.passes
  ]

  one_passing : (number other : ℕ) → PassesAssuming t assumed limit number → PassesAssuming t assumed limit other → number ≡ other
  one_passing number other (inl p) (inl q) = let first = p.last in let second = q.last in omega arith
  one_passing number other (inl p) (inr q) = absurd (not_passing number q.meets p)
  one_passing number other (inr p) (inl q) = absurd (not_passing other p.meets q)
  one_passing number other (inr p) (inr q) = (claims_end_in_one_way (assuming assumed t) limit).one_passing number other p.passes q.passes

pub assumptions_end_in_one_way : AssumptionsEndInOneWay
assumptions_end_in_one_way t assumed limit = record {
  not_vacuous = not_vacuous t assumed limit;
  no_break = λ h number input b. (claims_end_in_one_way (assuming assumed t) limit).no_break h.hold number input b.breaks;
  no_passing = no_passing t assumed limit;
  vacuous_or_passing = vacuous_or_passing t assumed limit;
  never_both = never_both t assumed limit;
  one_break = λ number other input another a b.
      (claims_end_in_one_way (assuming assumed t) limit).one_break number other input another a.breaks b.breaks;
  one_passing = one_passing t assumed limit;
}
