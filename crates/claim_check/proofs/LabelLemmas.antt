-- The labels of inputs and writes: what stays while they are lowered.
use Rattle.std.proofs.Common.{◌≡◌, ℕ, zero, suc, ◌+◌, ◌<◌, ◌≤◌, inl, inr, List, [], ◌∷◌, length, get_or, slice_get, Some, sym, ap}
use Rattle.std.proofs.Common.{◌∙◌, subst, arith}
use Rattle.std.specs.List.{AllByRecursion}
use Rattle.std.proofs.lemmas.Bool.{cases_lt}
use Rattle.std.proofs.lemmas.Option.{same_Some, slice_get-get_or}
use Rattle.list_facts.proofs.AllLemmas.{AllByRecursion-at}
use Rattle.list_facts.specs.Lists.{IsAmong}
use Rattle.list_facts.proofs.AmongLemmas.{all_among, all_from_among, some_of}
use Rattle.revs_tape.specs.declared.tape.Claim.{Claim}
use Rattle.revs_tape.specs.declared.tape.Ref.{Ref}
use Rattle.revs_tape.specs.declared.tape.Ref.TheVariants as refs
use Rattle.revs_tape.specs.declared.tape.Entry.{Entry}
use Rattle.revs_tape.specs.declared.tape.Entry.TheVariants as entries
use Rattle.revs_tape.specs.ClaimFunctions.{IsBase, operands_of, operands_at}
use Rattle.revs_tape.specs.Measures.{inputs_of, writes_of}
use Rattle.revs_tape.specs.Tapes.{TapeView, IsTape, IsKnown, IsKnownEntry, AreKnown, operands}
use Rattle.claim_check.specs.inside.Labels.{claims_of, label_of, AreSound, HaveClaims, ArePassedOn, AreLowered}
use Rattle.claim_check.specs.inside.Slots.{slot_of, slots_of, IsRefOf}
use Rattle.claim_check.proofs.BaseLemmas.{base_of_claim, base_of_operand}

-- ---- slots

pub same_slot : (n m : ℕ) (a b : Ref) → IsKnown n m a → IsKnown n m b → slot_of n a ≡ slot_of n b → a ≡ b
same_slot n m (refs.Input i) (refs.Input j) one other same = ap (λ (k : ℕ). refs.Input k) same
same_slot n m (refs.Input i) (refs.Write j) one other same = absurd (omega (arith, one, same))
same_slot n m (refs.Write i) (refs.Input j) one other same = absurd (omega (arith, other, same))
same_slot n m (refs.Write i) (refs.Write j) one other same = let e : i ≡ j = omega (arith, same) in ap (λ (k : ℕ). refs.Write k) e

-- the slot of what is known before the k-th write
pub slot_below : (n k : ℕ) (ref : Ref) → IsKnown n k ref → slot_of n ref < n + k
slot_below n k (refs.Input i) known = omega (arith, known)
slot_below n k (refs.Write j) known = omega (arith, known)

pub known_later : (n k m : ℕ) (ref : Ref) → IsKnown n k ref → k ≤ m → IsKnown n m ref
known_later n k m (refs.Input i) known later = known
known_later n k m (refs.Write j) known later = omega (arith, known, later)

-- ---- operands

entry_operands : (n k : ℕ) (entry : Entry) → IsKnownEntry n k entry → AllByRecursion (IsKnown n k) (operands entry)
entry_operands n k (entries.Const bit) known = tt
entry_operands n k (entries.Xor a b) known = (known.0, (known.1, tt))
entry_operands n k (entries.And a b) known = (known.0, (known.1, tt))

operands_from : (n k j : ℕ) (es : List Entry) (entry : Entry) → AreKnown n k es → slice_get es j ≡ Some entry
    → AllByRecursion (IsKnown n (k + j)) (operands entry)
operands_from n k j [] entry known is = cc
operands_from n k zero (e ∷ es) entry known is =
    let same : e ≡ entry = same_Some e entry is in
    let there : k ≡ k + 0 = omega arith in
    subst (λ (m : ℕ). AllByRecursion (IsKnown n m) (operands entry)) there
    (subst (λ (z : Entry). AllByRecursion (IsKnown n k) (operands z)) same (entry_operands n k e known.0))
operands_from n k (suc j) (e ∷ es) entry known is =
    let there : (k + 1) + j ≡ k + suc j = omega arith in
    subst (λ (m : ℕ). AllByRecursion (IsKnown n m) (operands entry)) there (operands_from n (k + 1) j es entry known.1 is)

-- the operands of a write are known before it
pub operands_known : (t : TapeView) → IsTape t → (j : ℕ) (entry : Entry) → slice_get t.entries j ≡ Some entry
    → AllByRecursion (IsKnown (inputs_of t) j) (operands entry)
operands_known t is j entry at =
    let there : 0 + j ≡ j = omega arith in
    subst (λ (m : ℕ). AllByRecursion (IsKnown (inputs_of t) m) (operands entry)) there
    (operands_from (inputs_of t) 0 j t.entries entry is.known at)

pub operands_are : (t : TapeView) (j : ℕ) (entry : Entry) → slice_get t.entries j ≡ Some entry → operands_of t (refs.Write j) ≡ operands entry
operands_are t j entry at = ap operands_at at

-- ---- labels that are lowered

-- a reference that may get the label
pub record MayHave (t : TapeView) (label : ℕ) (ref : Ref) : Type 0 where
  pub known : IsRefOf t ref
  pub base : label < claims_of t → IsBase t (label + 1) ref

pub sound_lowered : (t : TapeView) (made : List Ref) (label : ℕ) (old new : List ℕ) → AreSound t old
    → AreLowered (inputs_of t) made label old new → AllByRecursion (MayHave t label) made → AreSound t new
sound_lowered t made label old new sound lowered may =
    let n : ℕ = inputs_of t in
    record {
      size = lowered.size ∙ sound.size;
      most = λ slot. omega (arith, lowered.below slot, sound.most slot);
      bases = λ ref known low. elim (lowered.each (slot_of n ref)) as (λ _. IsBase t (label_of t new ref + 1) ref) [
        | inl same ↦ subst (λ (l : ℕ). IsBase t (l + 1) ref) (sym same) (sound.bases ref known (omega (arith, low, same)))
        | inr becomes ↦
            let found = some_of (λ r. slot_of n ref ≡ slot_of n r) made becomes.1 in
            let there : MayHave t label found.0 = all_among (MayHave t label) made may found.0 found.1 in
            let is : found.0 ≡ ref = sym (same_slot n (writes_of t) ref found.0 known there.known found.2) in
            let less : label < claims_of t = omega (arith, low, becomes.0) in
            subst (λ (l : ℕ). IsBase t (l + 1) ref) (sym becomes.0) (subst (λ (z : Ref). IsBase t (label + 1) z) is (there.base less))
      ];
    }

pub claims_lowered : (t : TapeView) (count : ℕ) (made : List Ref) (label : ℕ) (old new : List ℕ) → HaveClaims t count old
    → AreLowered (inputs_of t) made label old new → HaveClaims t count new
claims_lowered t count made label old new have lowered = record {
  low = λ number claim is less.
      omega (arith, have.low number claim is less, lowered.below (slot_of (inputs_of t) claim.of));
}

pub claims_more : (t : TapeView) (count : ℕ) (claim : Claim) (old new : List ℕ) → HaveClaims t count old → slice_get t.claims count ≡ Some claim
    → AreLowered (inputs_of t) (claim.of ∷ []) count old new → HaveClaims t (count + 1) new
claims_more t count claim old new have is lowered = record {
  low = λ number other there less. elim (cases_lt number count) as (λ _. label_of t new other.of ≤ number) [
    | inl before ↦ omega (arith, have.low number other there before, lowered.below (slot_of (inputs_of t) other.of))
    | inr from ↦
        let e : count ≡ number = omega (arith, less, from) in
        let same : claim ≡ other = same_Some claim other (sym is ∙ ap (slice_get t.claims) e ∙ there) in
        let here : label_of t new claim.of ≤ count = lowered.here.0 in
        subst (λ (z : Claim). label_of t new z.of ≤ number) same (omega (arith, here, e))
  ];
}

-- a slot behind all of them keeps its label
stays_behind : (n k : ℕ) (made : List Ref) (label : ℕ) (old new : List ℕ) → AreLowered n made label old new
    → AllByRecursion (IsKnown n k) made → (slot : ℕ) → n + k ≤ slot → get_or new slot 0 ≡ get_or old slot 0
stays_behind n k made label old new lowered known slot behind = elim (lowered.each slot) as (λ _. get_or new slot 0 ≡ get_or old slot 0) [
  | inl same ↦ same
  | inr becomes ↦
      let found = some_of (λ r. slot ≡ slot_of n r) made becomes.1 in
      absurd (omega (arith, behind, found.2, slot_below n k found.0 (all_among (IsKnown n k) made known found.0 found.1)))
]

pub passed_more : (t : TapeView) → IsTape t → (j : ℕ) (entry : Entry) (label : ℕ) (old new : List ℕ) → slice_get t.entries j ≡ Some entry
    → label ≡ label_of t old (refs.Write j) → ArePassedOn t (j + 1) old → AreLowered (inputs_of t) (operands entry) label old new → ArePassedOn t j new
passed_more t is j entry label old new at named passed lowered =
    let n : ℕ = inputs_of t in
    let known = operands_known t is j entry at in
    let stays : (k : ℕ) → j ≤ k → label_of t new (refs.Write k) ≡ label_of t old (refs.Write k) = λ k from.
    stays_behind n j (operands entry) label old new lowered known (n + k) (omega (arith, from)) in
    record {
      low = λ k operand from among. elim (cases_lt j k) as (λ _. label_of t new operand ≤ label_of t new (refs.Write k)) [
        | inl later ↦ omega (arith, passed.low k operand (omega (arith, later)) among, lowered.below (slot_of n operand), stays k from)
        | inr here ↦
            let e : k ≡ j = omega (arith, from, here) in
            let own : IsAmong operand (operands entry) =
            subst (IsAmong operand) (operands_are t j entry at) (subst (λ (m : ℕ). IsAmong operand (operands_of t (refs.Write m))) e among) in
            let low : label_of t new operand ≤ label = all_among (λ r. label_of t new r ≤ label) (operands entry) lowered.here operand own in
            let whole : label_of t new (refs.Write k) ≡ label = stays k from ∙ ap (λ (m : ℕ). label_of t old (refs.Write m)) e ∙ sym named in
            omega (arith, low, whole)
      ];
    }

-- the operands of a write may have its label
pub operands_may : (t : TapeView) → IsTape t → (labels : List ℕ) → AreSound t labels → (j : ℕ) (entry : Entry) (label : ℕ)
    → slice_get t.entries j ≡ Some entry → j < writes_of t → label ≡ label_of t labels (refs.Write j)
    → AllByRecursion (MayHave t label) (operands entry)
operands_may t is labels sound j entry label at inside named =
    let n : ℕ = inputs_of t in
    let known = operands_known t is j entry at in
    all_from_among (MayHave t label) (operands entry) (λ operand among. record {
      known = known_later n j (writes_of t) operand (all_among (IsKnown n j) (operands entry) known operand among) (omega (arith, inside));
      base = λ low.
          let own : IsBase t (label + 1) (refs.Write j) =
          subst (λ (l : ℕ). IsBase t (l + 1) (refs.Write j)) (sym named) (sound.bases (refs.Write j) inside (omega (arith, low, named))) in
          base_of_operand t (label + 1) (refs.Write j) operand own (subst (IsAmong operand) (sym (operands_are t j entry at)) among);
    })

-- ---- the loops

pub claim_labeled : (t : TapeView) → IsTape t → (n : ℕ) → n ≡ inputs_of t → (items : List Claim) → items ≡ t.claims → (number : ℕ) (d : Claim)
    → number < length items → (old new : List ℕ) → AreSound t old → HaveClaims t number old
    → AreLowered n ((get_or items number d).of ∷ []) number old new → AreSound t new × HaveClaims t (number + 1) new
claim_labeled t is n same_n items same number d low old new sound have lowered =
    let claim : Claim = get_or items number d in
    let at : slice_get t.claims number ≡ Some claim = ap (λ (z : List Claim). slice_get z number) (sym same) ∙ slice_get-get_or items number d low in
    let known : IsRefOf t claim.of =
    AllByRecursion-at (λ (z : Claim). IsRefOf t z.of) items number d (subst (AllByRecursion (λ (z : Claim). IsRefOf t z.of)) (sym same) is.claims) low in
    let may : MayHave t number claim.of = record {
      known = known;
      base = λ _. base_of_claim t (number + 1) number claim (omega arith) at;
    } in
    let all : AreLowered (inputs_of t) (claim.of ∷ []) number old new = subst (λ (m : ℕ). AreLowered m (claim.of ∷ []) number old new) same_n lowered in
    (sound_lowered t (claim.of ∷ []) number old new sound all (may, tt), claims_more t number claim old new have at all)

pub write_passed : (t : TapeView) → IsTape t → (n : ℕ) → n ≡ inputs_of t → (j : ℕ) (entry : Entry) (label : ℕ) (old new : List ℕ)
    → slice_get t.entries j ≡ Some entry → j < writes_of t → label ≡ get_or old (inputs_of t + j) 0 → AreSound t old → HaveClaims t (claims_of t) old
    → ArePassedOn t (j + 1) old → AreLowered n (operands entry) label old new
    → AreSound t new × HaveClaims t (claims_of t) new × ArePassedOn t j new
write_passed t is n same_n j entry label old new at inside named sound have passed some =
    let lowered : AreLowered (inputs_of t) (operands entry) label old new = subst (λ (m : ℕ). AreLowered m (operands entry) label old new) same_n some in (
      sound_lowered t (operands entry) label old new sound lowered (operands_may t is old sound j entry label at inside named),
      claims_lowered t (claims_of t) (operands entry) label old new have lowered,
      passed_more t is j entry label old new at named passed lowered,
    )

-- the operands of a write have slots
pub operands_have_slots : (t : TapeView) → IsTape t → (n : ℕ) → n ≡ inputs_of t → (labels : List ℕ) → length labels ≡ slots_of t
    → (j : ℕ) (entry : Entry) → slice_get t.entries j ≡ Some entry → j < writes_of t
    → AllByRecursion (λ made. slot_of n made < length labels) (operands entry)
operands_have_slots t is n same_n labels size j entry at inside =
    let known = operands_known t is j entry at in
    subst (λ (m : ℕ). AllByRecursion (λ made. slot_of m made < length labels) (operands entry)) (sym same_n)
    (all_from_among (λ made. slot_of (inputs_of t) made < length labels) (operands entry)
    (λ made among. omega (
      arith,
      size,
      inside,
      slot_below (inputs_of t) j made (all_among (IsKnown (inputs_of t) j) (operands entry) known made among),
    )))
