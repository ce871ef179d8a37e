-- The bit that the assumed claims are met, and the claims where they are.
use Rattle.std.proofs.Common.{◌≡◌, ℕ, zero, suc, ◌+◌, ◌*◌, ◌⊎◌, inl, inr, Bool, true, false, List, [], ◌∷◌, ◌++◌, length, drop, sum, slice_get, Some}
use Rattle.std.proofs.Common.{refl, sym, ap, ◌∙◌, subst, arith}
use Rattle.std.specs.Prelude.{◌↔◌}
use Rattle.std.specs.List.{AllByRecursion}
use Rattle.std.proofs.lemmas.List.{take-append-drop, length-append}
use Rattle.std.proofs.lemmas.Option.{same_Some}
use Rattle.list_facts.proofs.AllLemmas.{AllByRecursion-left, AllByRecursion-right}
use Rattle.list_facts.specs.Bits.{bit_of}
use Rattle.list_facts.specs.Lists.{AllFrom}
use Rattle.revs_tape.specs.declared.tape.Claim.{Claim}
use Rattle.revs_tape.specs.declared.tape.Entry.{Entry}
use Rattle.revs_tape.specs.declared.tape.Kind.TheVariants as kinds
use Rattle.revs_tape.specs.declared.tape.Ref.TheVariants as refs
use Rattle.revs_tape.specs.Tapes.{TapeView, IsTape, IsKnown, Holds, bit_at, claimed, written_by}
use Rattle.claim_assumptions.specs.Assumptions.{assumed_of, behind, constant_at, constants, failing_links, granted}
use Rattle.claim_assumptions.specs.Assumptions.{met_links, premise, restricted}
use Rattle.claim_assumptions.specs.Laws.{AssumptionsAreMet, ClaimsAreAsMany, ClaimsAreRestricted}
use Rattle.claim_assumptions.proofs.BuildingLemmas.{length-granted, length-restricted}
use Rattle.claim_assumptions.proofs.LinkLemmas.{FailingBehind, MetBehind, Stands, begun, failing_written, fails_bit, fails_not, fails_says, length-written}
use Rattle.claim_assumptions.proofs.LinkLemmas.{met_behind, met_says, met_so, met_written, written-append}

-- ---- elements by their places

pub all_by_place : {A : Type 0} (P : A → Type 0) (xs : List A) → ((k : ℕ) (x : A) → slice_get xs k ≡ Some x → P x) → AllByRecursion P xs
all_by_place P [] each = tt
all_by_place P (x ∷ xs) each = (each zero x refl, all_by_place P xs (λ k y is. each (suc k) y is))

pub at_place : {A : Type 0} (P : A → Type 0) (xs : List A) (k : ℕ) (x : A) → AllByRecursion P xs → slice_get xs k ≡ Some x → P x
at_place P [] k x all is = cc
at_place P (y ∷ ys) zero x all is = subst P (same_Some y x is) all.0
at_place P (y ∷ ys) (suc k) x all is = at_place P ys k x all.1 is

from_place : {A : Type 0} (P : ℕ → A → Type 0) (start : ℕ) (xs : List A) (i : ℕ) (x : A) → AllFrom P start xs → slice_get xs i ≡ Some x → P (start + i) x
from_place P start [] i x all is = cc
from_place P start (y ∷ ys) zero x all is = subst (λ (z : ℕ). P z x) (omega arith) (subst (P start) (same_Some y x is) all.0)
from_place P start (y ∷ ys) (suc i) x all is = subst (λ (z : ℕ). P z x) (omega arith) (from_place P (start + 1) ys i x all.1 is)

-- the element is in front, or behind
record StandsBehind {A : Type 0} (xs ys : List A) (k : ℕ) (x : A) : Type 0 where
  at : ℕ
  count : k ≡ length xs + at
  is : slice_get ys at ≡ Some x

in_parts : {A : Type 0} (xs ys : List A) (k : ℕ) (x : A) → slice_get (xs ++ ys) k ≡ Some x → (slice_get xs k ≡ Some x) ⊎ StandsBehind xs ys k x
in_parts [] ys k x is = inr (record { at = k; count = omega arith; is = is })
in_parts (y ∷ xs) ys zero x is = inl is
in_parts (y ∷ xs) ys (suc k) x is = elim (in_parts xs ys k x is) as (λ _. (slice_get xs k ≡ Some x) ⊎ StandsBehind (y ∷ xs) ys (suc k) x) [
  | inl front ↦ inl front
  | inr back ↦ inr (record { at = back.at; count = omega (arith, back.count); is = back.is })
]

get_front : {A : Type 0} (xs ys : List A) (k : ℕ) (x : A) → slice_get xs k ≡ Some x → slice_get (xs ++ ys) k ≡ Some x
get_front [] ys k x is = absurd cc
get_front (y ∷ xs) ys zero x is = is
get_front (y ∷ xs) ys (suc k) x is = get_front xs ys k x is

get_behind : {A : Type 0} (xs ys : List A) (k : ℕ) (x : A) → slice_get ys k ≡ Some x → slice_get (xs ++ ys) (length xs + k) ≡ Some x
get_behind [] ys k x is = ap (slice_get ys) (omega arith) ∙ is
get_behind (y ∷ xs) ys k x is = let next : suc (length xs) + k ≡ suc (length xs + k) = omega arith in
    ap (slice_get (y ∷ (xs ++ ys))) next ∙ get_behind xs ys k x is

granted_at : (w : ℕ) (cs : List Claim) (k : ℕ) (c : Claim) → slice_get cs k ≡ Some c
    → slice_get (granted w cs) k ≡ Some (record { kind = kinds.Clean; of = constant_at w false; at = c.at })
granted_at w [] k c is = absurd cc
granted_at w (d ∷ cs) zero c is = ap (λ (e : Claim). Some (record { kind = kinds.Clean; of = constant_at w false; at = e.at })) (same_Some d c is)
granted_at w (d ∷ cs) (suc k) c is = granted_at w cs k c is

restricted_at : (w number : ℕ) (cs : List Claim) (k : ℕ) (c : Claim) → slice_get cs k ≡ Some c
    → slice_get (restricted w number cs) k ≡ Some (record { kind = kinds.Clean; of = refs.Write (w + 3 + 2 * (number + k)); at = c.at })
restricted_at w number [] k c is = absurd cc
restricted_at w number (d ∷ cs) zero c is =
    let here : number ≡ number + 0 = omega arith in
    ap (λ (e : Claim). Some (record { kind = kinds.Clean; of = refs.Write (w + 3 + 2 * number); at = e.at })) (same_Some d c is)
    ∙ ap (λ (z : ℕ). Some (record { kind = kinds.Clean; of = refs.Write (w + 3 + 2 * z); at = c.at })) here
restricted_at w number (d ∷ cs) (suc k) c is =
    let next : number + 1 + k ≡ number + suc k = omega arith in
    restricted_at w (number + 1) cs k c is ∙ ap (λ (z : ℕ). Some (record { kind = kinds.Clean; of = refs.Write (w + 3 + 2 * z); at = c.at })) next

-- ---- the bit

-- the bits of the writes of a tape
abbrev first_bits : TapeView → List Bool → List Bool
first_bits t input = written_by input [] t.entries

-- and those with the links of claims behind them
abbrev link_bits : TapeView → List Bool → List Claim → List Bool
link_bits t input cs = written_by input (written_by input (first_bits t input) constants) (met_links (length t.entries) 0 cs)

links_stand : (t : TapeView) (input : List Bool) (cs : List Claim) → AllByRecursion (λ (c : Claim). IsKnown (sum t.params) (length t.entries) c.of) cs
    → MetBehind (sum t.params) (length t.entries) input (first_bits t input) (link_bits t input cs) (0 + length cs)
    (met_behind (sum t.params) (length t.entries) input (first_bits t input) true cs)
links_stand t input cs known =
    let w : ℕ = length t.entries in
    let first : List Bool = first_bits t input in
    let size : length first ≡ w = length-written input [] t.entries ∙ omega arith in
    let start = begun w first size in
    met_written (sum t.params) w input first ((first ++ false ∷ []) ++ true ∷ []) 0 true cs known
    (record { stands = start; bit = ap (bit_of ((first ++ false ∷ []) ++ true ∷ [])) (omega arith) ∙ start.high })

known_front : (t : TapeView) → IsTape t → (cs others : List Claim) → t.claims ≡ cs ++ others
    → AllByRecursion (λ (c : Claim). IsKnown (sum t.params) (length t.entries) c.of) cs
known_front t is cs others parts = AllByRecursion-left (λ (c : Claim). IsKnown (sum t.params) (length t.entries) c.of) cs others
    (subst (AllByRecursion (λ (c : Claim). IsKnown (sum t.params) (length t.entries) c.of)) parts is.claims)

known_behind : (t : TapeView) → IsTape t → (cs others : List Claim) → t.claims ≡ cs ++ others
    → AllByRecursion (λ (c : Claim). IsKnown (sum t.params) (length t.entries) c.of) others
known_behind t is cs others parts = AllByRecursion-right (λ (c : Claim). IsKnown (sum t.params) (length t.entries) c.of) cs others
    (subst (AllByRecursion (λ (c : Claim). IsKnown (sum t.params) (length t.entries) c.of)) parts is.claims)

parted : (t : TapeView) (assumed : ℕ) → t.claims ≡ assumed_of t assumed ++ drop assumed t.claims
parted t assumed = sym (take-append-drop assumed t.claims)

-- the bits of the writes of the tape of the bit
premise_bits : (t : TapeView) (assumed : ℕ) (input : List Bool)
    → written_by input [] (premise assumed t).entries ≡ link_bits t input (assumed_of t assumed)
premise_bits t assumed input =
    written-append input [] t.entries (constants ++ met_links (length t.entries) 0 (assumed_of t assumed))
    ∙ written-append input (first_bits t input) constants (met_links (length t.entries) 0 (assumed_of t assumed))

pub assumptions_are_met : AssumptionsAreMet
assumptions_are_met t is assumed input =
    let w : ℕ = length t.entries in
    let cs : List Claim = assumed_of t assumed in
    let first : List Bool = first_bits t input in
    let bits : List Bool = written_by input [] (premise assumed t).entries in
    let stands = links_stand t input cs (known_front t is cs (drop assumed t.claims) (parted t assumed)) in
    let bit : bit_of bits (w + 1 + 2 * length cs) ≡ met_behind (sum t.params) w input first true cs =
    ap (λ (z : List Bool). bit_of z (w + 1 + 2 * length cs)) (premise_bits t assumed input)
    ∙ ap (bit_of (link_bits t input cs)) (omega arith) ∙ stands.bit in
    record {
      bit = bit_of bits (w + 1 + 2 * length cs);
      is = refl;
      met = (
        λ on. (met_says (sum t.params) w input first true cs (sym bit ∙ on)).1,
        λ all. bit ∙ met_so (sum t.params) w input first true cs refl all,
      );
    }

-- ---- the claims

-- as in `IsRestricted`, for any tape and any claims that are looked at
record Says (t u : TapeView) (cs : List Claim) (number : ℕ) (c : Claim) : Type 0 where
  claim : Claim
  is_claim : slice_get u.claims number ≡ Some claim
  place : claim.at ≡ c.at
  says : (input : List Bool) → (Holds u input claim ↔ (AllByRecursion (Holds t input) cs → Holds t input c))

-- the bits of the writes of the tape of the claims
claim_bits : (t : TapeView) (d : Claim) (ds others : List Claim) (input : List Bool)
    → written_by input [] (behind (d ∷ ds) others t).entries
    ≡ written_by input (link_bits t input (d ∷ ds)) (failing_links (length t.entries) (length (d ∷ ds)) (length (d ∷ ds)) others)
claim_bits t d ds others input =
    let w : ℕ = length t.entries in
    let cs : List Claim = d ∷ ds in
    let fails : List Entry = failing_links w (length cs) (length cs) others in
    written-append input [] t.entries (constants ++ (met_links w 0 cs ++ fails))
    ∙ written-append input (first_bits t input) constants (met_links w 0 cs ++ fails)
    ∙ written-append input (written_by input (first_bits t input) constants) (met_links w 0 cs) fails

module _ (t : TapeView) (is : IsTape t) (d : Claim) (ds others : List Claim) (parts : t.claims ≡ (d ∷ ds) ++ others) where
  all_bits : List Bool → List Bool
  all_bits input = written_by input (link_bits t input (d ∷ ds)) (failing_links (length t.entries) (length (d ∷ ds)) (length (d ∷ ds)) others)

  fails_all : (input : List Bool)
      → AllFrom (λ j c. bit_of (all_bits input) (length t.entries + 3 + 2 * j)
      ≡ fails_bit (sum t.params) (length t.entries) input (first_bits t input)
      (met_behind (sum t.params) (length t.entries) input (first_bits t input) true (d ∷ ds)) c) (length (d ∷ ds)) others
      × (bit_of (all_bits input) (length t.entries) ≡ false)
  unfolding all_bits
  fails_all input =
      let cs : List Claim = d ∷ ds in
      let w : ℕ = length t.entries in
      let first : List Bool = first_bits t input in
      let stands = links_stand t input cs (known_front t is cs others parts) in
      let m : Bool = met_behind (sum t.params) w input first true cs in
      let so : FailingBehind (sum t.params) w input first (link_bits t input cs) (length cs) (length cs) m = record {
        stands = subst (λ (k : ℕ). Stands w first (link_bits t input cs) k) (omega arith) stands.stands;
        all = ap (bit_of (link_bits t input cs)) (omega arith) ∙ stands.bit;
        behind = omega arith;
      } in
      failing_written (sum t.params) w input first (link_bits t input cs) (length cs) (length cs) m others (known_behind t is cs others parts) so

  says_front : (number : ℕ) (c : Claim) → slice_get (d ∷ ds) number ≡ Some c → Says t (behind (d ∷ ds) others t) (d ∷ ds) number c
  unfolding all_bits
  says_front number c at =
      let w : ℕ = length t.entries in
      record {
        claim = record { kind = kinds.Clean; of = constant_at w false; at = c.at };
        is_claim = get_front (granted w (d ∷ ds)) (restricted w (length (d ∷ ds)) others) number _ (granted_at w (d ∷ ds) number c at);
        place = refl;
        says = λ input. (
          λ h all. at_place (Holds t input) (d ∷ ds) number c all at,
          λ h. ap (λ (z : List Bool). bit_of z (w + 0)) (claim_bits t d ds others input)
              ∙ ap (bit_of (all_bits input)) (omega arith) ∙ (fails_all input).1,
        );
      }

  says_behind : (number : ℕ) (c : Claim) → StandsBehind (d ∷ ds) others number c → Says t (behind (d ∷ ds) others t) (d ∷ ds) number c
  unfolding all_bits
  says_behind number c back =
      let w : ℕ = length t.entries in
      let cs : List Claim = d ∷ ds in
      let place : ℕ = w + 3 + 2 * (length cs + back.at) in
      let mine : Claim = record { kind = kinds.Clean; of = refs.Write place; at = c.at } in
      let there : slice_get (granted w cs ++ restricted w (length cs) others) (length (granted w cs) + back.at) ≡ Some mine =
      get_behind (granted w cs) (restricted w (length cs) others) back.at mine (restricted_at w (length cs) others back.at c back.is) in
      let m : List Bool → Bool = λ input. met_behind (sum t.params) w input (first_bits t input) true cs in
      let bit : (input : List Bool) → bit_of (written_by input [] (behind cs others t).entries) place
      ≡ fails_bit (sum t.params) w input (first_bits t input) (m input) c =
      λ input. ap (λ (z : List Bool). bit_of z place) (claim_bits t d ds others input)
      ∙ from_place (λ j e. bit_of (all_bits input) (w + 3 + 2 * j) ≡ fails_bit (sum t.params) w input (first_bits t input) (m input) e)
      (length cs) others back.at c (fails_all input).0 back.is in
      record {
        claim = mine;
        is_claim = ap (slice_get (granted w cs ++ restricted w (length cs) others)) (omega (arith, back.count, length-granted w cs)) ∙ there;
        place = refl;
        says = λ input. (
          λ h all. fails_says (m input) (bit_at input (first_bits t input) c.of) (claimed c.kind) (sym (bit input) ∙ h)
              (met_so (sum t.params) w input (first_bits t input) true cs refl all),
          λ h. bit input ∙ fails_not (m input) (bit_at input (first_bits t input) c.of) (claimed c.kind)
              (λ on. h (met_says (sum t.params) w input (first_bits t input) true cs on).1),
        );
      }

says_all : (t : TapeView) → IsTape t → (cs others : List Claim) → t.claims ≡ cs ++ others → (number : ℕ) (c : Claim) → slice_get t.claims number ≡ Some c
    → Says t (behind cs others t) cs number c
says_all t is [] others parts number c at = record {
  claim = c;
  is_claim = at;
  place = refl;
  says = λ input. (λ h all. h, λ h. h tt);
}
says_all t is (d ∷ ds) others parts number c at =
    elim (in_parts (d ∷ ds) others number c (subst (λ (xs : List Claim). slice_get xs number ≡ Some c) parts at))
    as (λ _. Says t (behind (d ∷ ds) others t) (d ∷ ds) number c) [
      | inl front ↦ says_front t is d ds others parts number c front
      | inr back ↦ says_behind t is d ds others parts number c back
    ]

pub claims_are_restricted : ClaimsAreRestricted
claims_are_restricted t is assumed number c at =
    let all = says_all t is (assumed_of t assumed) (drop assumed t.claims) (parted t assumed) number c at in
    record { claim = all.claim; is_claim = all.is_claim; place = all.place; says = all.says }

as_many : (t : TapeView) (cs others : List Claim) → t.claims ≡ cs ++ others → length (behind cs others t).claims ≡ length t.claims
as_many t [] others parts = refl
as_many t (d ∷ ds) others parts =
    let w : ℕ = length t.entries in
    let cs : List Claim = d ∷ ds in
    omega (
      arith,
      length-append (granted w cs) (restricted w (length cs) others),
      length-granted w cs,
      length-restricted w (length cs) others,
      ap length parts,
      length-append cs others,
    )

pub claims_are_as_many : ClaimsAreAsMany
claims_are_as_many t assumed = as_many t (assumed_of t assumed) (drop assumed t.claims) (parted t assumed)

pub same_params : (t : TapeView) (cs others : List Claim) → (behind cs others t).params ≡ t.params
same_params t [] others = refl
same_params t (d ∷ ds) others = refl
