-- What settling says of the two tapes is so of the claims on the inputs that are looked at.
use Rattle.std.proofs.Common.{◌≡◌, ℕ, zero, suc, ◌<◌, inl, inr, Bool, false, List, [], ◌∷◌, length, take, drop, sum, get_or, slice_get, Some, sym, ap, ◌∙◌, subst, arith}
use Rattle.std.specs.List.{AllByRecursion}
use Rattle.std.proofs.lemmas.Bool.{cases_Bool, true≢false}
use Rattle.std.proofs.lemmas.Option.{same_Some, slice_get_within}
use Rattle.revs_tape.specs.declared.tape.Claim.{Claim}
use Rattle.revs_tape.specs.Claims.{HoldsEverywhere, IsInputOf, IsLeastBreaking}
use Rattle.revs_tape.specs.Tapes.{TapeView, IsTape, Holds}
use Rattle.revs_tape.specs.VariableOrders.{IsBefore, variable_order}
use Rattle.claim_check.specs.Claims.{BreaksOn, HoldWithin}
use Rattle.claim_assumptions.specs.Assumptions.{AreMetOn, assumed_of, assuming, premise}
use Rattle.claim_assumptions.specs.Laws.{HoldsWhereMet, IsFirstBreakingMet, IsLeastBreakingMet, IsLeastLooked, IsRestricted, SettlingIsMeant}
use Rattle.claim_assumptions.specs.Settling.{IsLeastMet, IsVacuous}
use Rattle.claim_assumptions.proofs.PlaceLemmas.{found}
use Rattle.claim_assumptions.proofs.MetLemmas.{all_by_place, assumptions_are_met, at_place, claims_are_as_many, claims_are_restricted, same_params}

-- an element in front of a place stands in the whole list
record StandsBefore {A : Type 0} (xs : List A) (n k : ℕ) (x : A) : Type 0 where
  is : slice_get xs k ≡ Some x
  low : k < n

before_place : {A : Type 0} (n : ℕ) (xs : List A) (k : ℕ) (x : A) → slice_get (take n xs) k ≡ Some x → StandsBefore xs n k x
before_place zero xs k x is = absurd cc
before_place (suc n) [] k x is = absurd cc
before_place (suc n) (y ∷ ys) zero x is = record { is = is; low = omega arith }
before_place (suc n) (y ∷ ys) (suc k) x is =
    let rest = before_place n ys k x is in
    record { is = rest.is; low = omega (arith, rest.low) }

taken : {A : Type 0} (n : ℕ) (xs : List A) (k : ℕ) (x : A) → slice_get xs k ≡ Some x → k < n → slice_get (take n xs) k ≡ Some x
taken zero xs k x is low = absurd (omega (arith, low))
taken (suc n) [] k x is low = is
taken (suc n) (y ∷ ys) zero x is low = is
taken (suc n) (y ∷ ys) (suc k) x is low = taken n ys k x is (omega (arith, low))

module _ (t : TapeView) (is : IsTape t) (assumed limit : ℕ) where
  params : (assuming assumed t).params ≡ t.params
  params = same_params t (assumed_of t assumed) (drop assumed t.claims)

  -- where the restricted claim holds, the claim holds where the assumed ones do
  holds_met : (number : ℕ) (c : Claim) → (r : IsRestricted t assumed number c) → HoldsEverywhere (assuming assumed t) r.claim → HoldsWhereMet t assumed c
  holds_met number c r all input size met =
      (r.says input).0 (all input (subst (λ (ps : List ℕ). length input ≡ sum ps) (sym params) size)) met

  hold : HoldWithin (assuming assumed t) limit → AllByRecursion (HoldsWhereMet t assumed) t.claims
  hold h = all_by_place (HoldsWhereMet t assumed) t.claims (λ k c at.
      let r = claims_are_restricted t is assumed k c at in
      holds_met k c r (at_place (HoldsEverywhere (assuming assumed t)) (assuming assumed t).claims k r.claim h.all r.is_claim))

  -- the assumed claims hold, or this is absurd
  met_or : (input : List Bool) → ((AreMetOn t assumed input → ⊥) → ⊥) → AreMetOn t assumed input
  met_or input not_not =
      let tells = assumptions_are_met t is assumed input in
      elim (cases_Bool tells.bit) as (λ _. AreMetOn t assumed input) [
        | inl on ↦ tells.met.0 on
        | inr off ↦ absurd (not_not (λ met. true≢false (sym (tells.met.1 met) ∙ off)))
      ]

  least_met : (number : ℕ) (c : Claim) (input : List Bool) → (r : IsRestricted t assumed number c)
      → IsLeastBreaking (assuming assumed t) r.claim input → IsLeastBreakingMet t assumed c input
  least_met number c input r least = record {
    is_input = subst (λ (ps : List ℕ). length input ≡ sum ps) params least.is_input;
    met = met_or input (λ none. least.fails ((r.says input).1 (λ met. absurd (none met))));
    fails = λ holds. least.fails ((r.says input).1 (λ met. holds));
    least = λ other size sooner met. (r.says other).0
        (least.least other (subst (λ (ps : List ℕ). length other ≡ sum ps) (sym params) size)
        (subst (λ (ps : List ℕ). IsBefore (variable_order ps) other input) (sym params) sooner)) met;
  }

  breaks : (number : ℕ) (input : List Bool) → BreaksOn (assuming assumed t) limit number input → IsFirstBreakingMet t assumed number input
  breaks number input b =
      let u : TapeView = assuming assumed t in
      let inside : number < length t.claims =
      omega (arith, slice_get_within u.claims number b.claim b.is_claim, claims_are_as_many t assumed) in
      let c = found t.claims number inside in
      let r = claims_are_restricted t is assumed number c.0 c.1 in
      let same : b.claim ≡ r.claim = same_Some b.claim r.claim (sym b.is_claim ∙ r.is_claim) in
      record {
        claim = c.0;
        is_claim = c.1;
        before = all_by_place (HoldsWhereMet t assumed) (take number t.claims) (λ k d at.
            let early = before_place number t.claims k d at in
            let s = claims_are_restricted t is assumed k d early.is in
            holds_met k d s (at_place (HoldsEverywhere u) (take number u.claims) k s.claim b.before (taken number u.claims k s.claim s.is_claim early.low)));
        least = least_met number c.0 input r (subst (λ (e : Claim). IsLeastBreaking u e input) same b.least);
      }

  -- the claim of the tape of the bit holds exactly where the assumed ones do not
  premise_holds : (input : List Bool) → AllByRecursion (Holds (premise assumed t) input) (premise assumed t).claims → ¬ AreMetOn t assumed input
  premise_holds input off met =
      let tells = assumptions_are_met t is assumed input in
      let bit : tells.bit ≡ false = sym (ap (λ (bits : List Bool). get_or bits 0 false) tells.is) ∙ off.0 in
      true≢false (sym (tells.met.1 met) ∙ bit)

  premise_fails : (input : List Bool) (c : Claim) → slice_get (premise assumed t).claims 0 ≡ Some c → ¬ Holds (premise assumed t) input c
      → AreMetOn t assumed input
  premise_fails input c at fails =
      let tells = assumptions_are_met t is assumed input in
      met_or input (λ none. elim (cases_Bool tells.bit) as (λ _. ⊥) [
        | inl on ↦ none (tells.met.0 on)
        | inr off ↦ fails (at_place (Holds (premise assumed t) input) (premise assumed t).claims 0 c
            (ap (λ (bits : List Bool). get_or bits 0 false) tells.is ∙ off, tt) at)
      ])

  looked : (input : List Bool) → IsLeastMet t assumed limit input → IsLeastLooked t assumed input
  looked input b =
      let only : Claim = get_or (premise assumed t).claims 0 b.claim in
      let same : only ≡ b.claim = same_Some only b.claim b.is_claim in
      record {
        is_input = b.least.is_input;
        met = premise_fails input b.claim b.is_claim b.least.fails;
        least = λ other size sooner. premise_holds other
            (subst (Holds (premise assumed t) other) (sym same) (b.least.least other size sooner), tt);
      }

  vacuous : IsVacuous t assumed limit → (input : List Bool) → IsInputOf t input → ¬ AreMetOn t assumed input
  vacuous v input size = premise_holds input (v.none.all.0 input size, tt)

pub settling_is_meant : SettlingIsMeant
settling_is_meant t is assumed limit = record {
  hold = hold t is assumed limit;
  breaks = breaks t is assumed limit;
  looked = looked t is assumed limit;
  vacuous = vacuous t is assumed limit;
}
