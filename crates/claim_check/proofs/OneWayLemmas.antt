-- The claims of a tape end in one way.
use Rattle.std.proofs.Common.{◌≡◌, ℕ, zero, suc, ◌+◌, ◌<◌, inl, inr, Bool, List, [], ◌∷◌, length, take, slice_get, Some, sym, ◌∙◌, subst, arith}
use Rattle.std.specs.List.{AllByRecursion}
use Rattle.std.proofs.lemmas.Bool.{cases_lt, cases_order}
use Rattle.std.proofs.lemmas.List.{take_all}
use Rattle.std.proofs.lemmas.Option.{same_Some, slice_get_within}
use Rattle.revs_tape.specs.declared.tape.Claim.{Claim}
use Rattle.list_facts.specs.Lists.{AnyByRecursion}
use Rattle.list_facts.proofs.AllLemmas.{AllByRecursion-weaker}
use Rattle.list_facts.proofs.CountingLemmas.{no_more}
use Rattle.revs_tape.specs.ClaimFunctions.{HasAtMost, HasMore, IsMember, IsSameFunction, Restriction}
use Rattle.revs_tape.specs.Claims.{HoldsEverywhere, IsLeastBreaking}
use Rattle.revs_tape.specs.Tapes.{TapeView}
use Rattle.revs_tape.proofs.ClaimLemmas.{one_least}
use Rattle.claim_check.specs.Claims.{HoldBefore, HoldWithin, BreaksOn, PassesAt, ClaimsEndInOneWay}
use Rattle.claim_check.proofs.MemberLemmas.{HasMore-more}

all_early : {A : Type 0} (P : A → Type 0) (xs : List A) (n k : ℕ) (x : A) → AllByRecursion P (take n xs) → k < n → slice_get xs k ≡ Some x → P x
all_early P xs zero k x all low is = absurd (omega (arith, low))
all_early P [] (suc n) k x all low is = cc
all_early P (y ∷ ys) (suc n) zero x all low is = subst P (same_Some y x is) all.0
all_early P (y ∷ ys) (suc n) (suc k) x all low is = all_early P ys n k x all.1 (omega (arith, low)) is

-- a claim that breaks does not hold everywhere
not_everywhere : (t : TapeView) (claim : Claim) (input : List Bool) → IsLeastBreaking t claim input → ¬ HoldsEverywhere t claim
not_everywhere t claim input least holds = least.fails (holds input least.is_input)

turned : (t : TapeView) (r s : Restriction) → IsSameFunction t r s → IsSameFunction t s r
turned t r s same input is = sym (same input is)

joined : (t : TapeView) (r s u : Restriction) → IsSameFunction t r s → IsSameFunction t s u → IsSameFunction t r u
joined t r s u one two input is = one input is ∙ two input is

-- more functions than the limit are not at most so many, on any tape
more_excludes_most : (t : TapeView) (claims limit : ℕ) → HasMore t claims limit → HasAtMost t claims limit → ⊥
more_excludes_most t claims limit more most =
    let alike = AllByRecursion-weaker (IsMember t claims) (λ r. AnyByRecursion (IsSameFunction t r) most.listed) most.all more.members more.are in
    let fewer = no_more (IsSameFunction t) (turned t) (joined t) more.members most.listed more.apart alike in
    omega (arith, fewer, more.many, most.few)

module _ (t : TapeView) (limit : ℕ) where
  -- no claim breaks before one that all before hold
  breaks_no_sooner : (number other : ℕ) (input : List Bool) → BreaksOn t limit number input → HoldBefore t other → number < other → ⊥
  breaks_no_sooner number other input breaks before sooner =
      not_everywhere t breaks.claim input breaks.least (all_early (HoldsEverywhere t) t.claims other number breaks.claim before sooner breaks.is_claim)

  -- nor does one pass the limit where more claims do not
  passes_no_sooner : (number claims : ℕ) → PassesAt t limit number → number < claims → HasAtMost t claims limit → ⊥
  passes_no_sooner number claims passes sooner few =
      more_excludes_most t claims limit (HasMore-more t (number + 1) claims limit (omega (arith, sooner)) passes.more) few

  breaks_none : HoldWithin t limit → (number : ℕ) (input : List Bool) → BreaksOn t limit number input → ⊥
  breaks_none hold number input breaks =
      let count : ℕ = length t.claims in
      let all : HoldBefore t count = subst (AllByRecursion (HoldsEverywhere t)) (sym (take_all count t.claims (omega arith))) hold.all in
      breaks_no_sooner number count input breaks all (slice_get_within t.claims number breaks.claim breaks.is_claim)

  passes_none : HoldWithin t limit → (number : ℕ) → PassesAt t limit number → ⊥
  passes_none hold number passes =
      passes_no_sooner number (length t.claims) passes (slice_get_within t.claims number passes.claim passes.is_claim) hold.few

  not_both : (number other : ℕ) (input : List Bool) → BreaksOn t limit number input → PassesAt t limit other → ⊥
  not_both number other input breaks passes = elim (cases_lt number other) as (λ _. ⊥) [
    | inl sooner ↦ breaks_no_sooner number other input breaks passes.before sooner
    | inr later ↦ passes_no_sooner other (number + 1) passes (omega (arith, later)) breaks.few
  ]

  same_claim : (number other : ℕ) (input another : List Bool) → BreaksOn t limit number input → BreaksOn t limit other another → number ≡ other
  same_claim number other input another one two = elim (cases_order number other) as (λ _. number ≡ other) [
    | inl same ↦ same
    | inr differ ↦ elim differ as (λ _. number ≡ other) [
      | inl sooner ↦ absurd (breaks_no_sooner number other input one two.before sooner)
      | inr later ↦ absurd (breaks_no_sooner other number another two one.before later)
    ]
  ]

  same_break : (number other : ℕ) (input another : List Bool) → BreaksOn t limit number input → BreaksOn t limit other another
      → (number ≡ other) × (input ≡ another)
  same_break number other input another one two =
      let same : number ≡ other = same_claim number other input another one two in
      let there : slice_get t.claims number ≡ Some two.claim = subst (λ (z : ℕ). slice_get t.claims z ≡ Some two.claim) (sym same) two.is_claim in
      let claim : two.claim ≡ one.claim = same_Some two.claim one.claim (sym there ∙ one.is_claim) in
      (same, one_least t one.claim another input (subst (λ (z : Claim). IsLeastBreaking t z another) claim two.least) one.least)

  same_passing : (number other : ℕ) → PassesAt t limit number → PassesAt t limit other → number ≡ other
  same_passing number other one two = elim (cases_order number other) as (λ _. number ≡ other) [
    | inl same ↦ same
    | inr differ ↦ elim differ as (λ _. number ≡ other) [
      | inl sooner ↦ absurd (passes_no_sooner number other one sooner two.few)
      | inr later ↦ absurd (passes_no_sooner other number two later one.few)
    ]
  ]

pub claims_end_in_one_way : ClaimsEndInOneWay
claims_end_in_one_way t limit = record {
  no_break = breaks_none t limit;
  no_passing = passes_none t limit;
  never_both = not_both t limit;
  one_break = same_break t limit;
  one_passing = same_passing t limit;
}
