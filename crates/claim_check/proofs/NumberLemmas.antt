-- The numbers of inputs and writes: one more, the next of a claim, and all of them.
use Rattle.std.proofs.Common.{◌≡◌, ℕ, ◌+◌, ◌<◌, ◌≤◌, inl, inr, List, [], ◌∷◌, length, Result, Ok, Err, IfErr, IsErrAnd, get_or, set, slice_get, Some}
use Rattle.std.proofs.Common.{None, refl, sym, ap, ◌∙◌, subst, arith}
use Rattle.std.specs.List.{AllByRecursion}
use Rattle.std.proofs.lemmas.Bool.{cases_lt, cases_eq}
use Rattle.std.proofs.lemmas.List.{length-set, get_or-set_same, get_or-set_other}
use Rattle.std.proofs.lemmas.Option.{get_or_from_slice_get, slice_get_cases}
use Rattle.list_facts.specs.Lists.{IsAmong}
use Rattle.list_facts.proofs.AllLemmas.{AllByRecursion-at}
use Rattle.list_facts.proofs.AmongLemmas.{all_among, all_from_among}
use Rattle.revs_tape.specs.declared.tape.Claim.{Claim}
use Rattle.revs_tape.specs.declared.tape.Entry.{Entry}
use Rattle.revs_tape.specs.declared.tape.Ref.{Ref}
use Rattle.revs_tape.specs.declared.tape.Ref.TheVariants as refs
use Rattle.revs_tape.specs.ClaimFunctions.{IsBase, operands_of}
use Rattle.revs_tape.specs.Measures.{inputs_of, writes_of}
use Rattle.revs_tape.specs.Tapes.{TapeView, IsKnown, IsTape, operands}
use Rattle.decision_diagram.specs.declared.node.DdFault.{DdFault}
use Rattle.decision_diagram.specs.declared.node.DdFault.TheVariants as faults
use Rattle.decision_diagram.specs.Diagrams.{DiagramView, IsCanonical, Triple, function_of}
use Rattle.decision_diagram.specs.Functions.{AreSame, Function}
use Rattle.decision_diagram.specs.Growth.{Computes, KeepsNodes, MayRefuse, StandsFor}
use Rattle.decision_diagram.proofs.GrowthLemmas.{Grows-refl, StandsFor-same, computes, computes_same, stands-kept}
use Rattle.claim_check.specs.inside.Chains.{IsNext}
use Rattle.claim_check.specs.inside.Labels.{AreLabels, claims_of, label_of}
use Rattle.claim_check.specs.inside.Numbers.{AreMade, ComesBefore, HasLabel, HasNumber, PassLimit}
use Rattle.claim_check.specs.inside.Slots.{IsRefOf, slot_of, slots_of}
use Rattle.claim_check.specs.inside.Tables.{HoldsAllBases, HoldsOnlyMembers, function_at}
use Rattle.claim_check.proofs.BaseLemmas.{bases_within}
use Rattle.claim_check.proofs.LabelLemmas.{known_later, operands_are, operands_known, same_slot, slot_below}
use Rattle.claim_check.proofs.MemberLemmas.{passes}

all_at_get : {A : Type 0} (P : A → Type 0) (xs : List A) (k : ℕ) (x : A) → AllByRecursion P xs → slice_get xs k ≡ Some x → P x
all_at_get P xs k x all at = elim (slice_get_cases xs k).1 as (λ _. P x) [
  | inl found ↦
      subst P (get_or_from_slice_get xs k x x at) (AllByRecursion-at P xs k x all found.1)
  | inr past ↦ let e : None ≡ Some x = sym past.1 ∙ at in cc
]

-- ---- operands

-- the operands of a write of the tape
record AreOperands (t : TapeView) (j : ℕ) : Type 0 where
  entry : Entry
  at : slice_get t.entries j ≡ Some entry

some_entry : (t : TapeView) (j : ℕ) → j < writes_of t → AreOperands t j
some_entry t j inside = elim (slice_get_cases t.entries j).1 as (λ _. AreOperands t j) [
  | inl found ↦ record { entry = found.0; at = found.2 }
  | inr past ↦ absurd (omega (arith, inside, past.0))
]

-- an operand of a write stands before it
operand_before : (t : TapeView) → IsTape t → (j : ℕ) → j < writes_of t → (operand : Ref) → IsAmong operand (operands_of t (refs.Write j))
    → IsKnown (inputs_of t) j operand
operand_before t is j inside operand among =
    let found = some_entry t j inside in
    all_among (IsKnown (inputs_of t) j) (operands found.entry) (operands_known t is j found.entry found.at) operand
    (subst (IsAmong operand) (operands_are t j found.entry found.at) among)

operand_known : (t : TapeView) → IsTape t → (ref operand : Ref) → IsRefOf t ref → IsAmong operand (operands_of t ref) → IsRefOf t operand
operand_known t is (refs.Input i) operand known among = absurd among
operand_known t is (refs.Write j) operand known among =
    known_later (inputs_of t) j (writes_of t) operand (operand_before t is j known operand among) (omega (arith, known))

operand_label : (t : TapeView) (labels : List ℕ) → AreLabels t labels → (ref operand : Ref) → IsAmong operand (operands_of t ref)
    → label_of t labels operand ≤ label_of t labels ref
operand_label t labels are (refs.Input i) operand among = absurd among
operand_label t labels are (refs.Write j) operand among = are.passed.low j operand (omega arith) among

operand_slot : (t : TapeView) → IsTape t → (ref operand : Ref) → IsRefOf t ref → IsAmong operand (operands_of t ref)
    → slot_of (inputs_of t) operand < slot_of (inputs_of t) ref
operand_slot t is (refs.Input i) operand known among = absurd among
operand_slot t is (refs.Write j) operand known among = slot_below (inputs_of t) j operand (operand_before t is j known operand among)

-- the operands of what is next have their numbers
pub operands_made : (t : TapeView) → IsTape t → (labels : List ℕ) → AreLabels t labels → (number slot : ℕ) (nodes : List Triple) (numbers : List ℕ)
    → AreMade t labels number slot nodes numbers → (ref : Ref) → IsRefOf t ref → slot_of (inputs_of t) ref ≡ slot → get_or labels slot 0 ≡ number
    → AllByRecursion (HasNumber t nodes numbers) (operands_of t ref)
operands_made t is labels are number slot nodes numbers made ref known at label =
    let own : label_of t labels ref ≡ number = ap (λ (s : ℕ). get_or labels s 0) at ∙ label in
    all_from_among (HasNumber t nodes numbers) (operands_of t ref) (λ operand among.
    let low : label_of t labels operand ≤ number = omega (arith, own, operand_label t labels are ref operand among) in
    let before : slot_of (inputs_of t) operand < slot = omega (arith, at, operand_slot t is ref operand known among) in
    made.made operand (operand_known t is ref operand known among) (elim (cases_lt (label_of t labels operand) number)
    as (λ _. ComesBefore t labels number slot operand) [
      | inl less ↦ inl less
      | inr most ↦ inr (omega (arith, low, most), before)
    ]))

-- both operands of a write
pub two_operands : (t : TapeView) (P : Ref → Type 0) (j : ℕ) (entry : Entry) (a b : Ref) → slice_get t.entries j ≡ Some entry
    → operands entry ≡ a ∷ b ∷ [] → AllByRecursion P (operands_of t (refs.Write j)) → P a × P b
two_operands t P j entry a b at two all =
    let both : AllByRecursion P (a ∷ b ∷ []) = subst (AllByRecursion P) (operands_are t j entry at ∙ two) all in
    (both.0, both.1.0)

-- ---- answers

pub answer_constant : (f g : Function) (d : DiagramView) (n : ℕ) → AreSame g f → IsCanonical d → StandsFor d.nodes n g → Computes f d d (Ok n)
answer_constant f g d n same canonical stands = computes f d d (Ok n) (Grows-refl f d canonical) (StandsFor-same d.nodes n g f same stands) tt

-- ---- one more number

pub made_kept : (t : TapeView) (labels : List ℕ) (number slot : ℕ) (old new : DiagramView) (numbers : List ℕ) → KeepsNodes old new
    → AreMade t labels number slot old.nodes numbers → AreMade t labels number slot new.nodes numbers
made_kept t labels number slot old new numbers kept made = record {
  size = made.size;
  made = λ ref known before. record {
    known = known;
    stands = stands-kept old new kept (get_or numbers (slot_of (inputs_of t) ref) 0) (function_at t ref) (made.made ref known before).stands;
  };
}

pub made_one : (t : TapeView) (labels : List ℕ) (number slot : ℕ) (nodes : List Triple) (numbers : List ℕ) (h : ℕ) (ref : Ref) → IsRefOf t ref
    → slot_of (inputs_of t) ref ≡ slot → slot < slots_of t → StandsFor nodes h (function_at t ref) → AreMade t labels number slot nodes numbers
    → AreMade t labels number (slot + 1) nodes (set numbers slot h)
made_one t labels number slot nodes numbers h ref known at inside stands made =
    let n : ℕ = inputs_of t in
    record {
      size = length-set numbers slot h ∙ made.size;
      made = λ other known2 before. elim (cases_eq (slot_of n other) slot) as (λ _. HasNumber t nodes (set numbers slot h) other) [
        | inl here ↦
            let same : ref ≡ other = same_slot n (writes_of t) ref other known known2 (at ∙ sym here) in
            let own : get_or (set numbers slot h) (slot_of n other) 0 ≡ h =
            ap (λ (s : ℕ). get_or (set numbers slot h) s 0) here ∙ get_or-set_same numbers slot h 0 (omega (arith, inside, made.size)) in
            record {
              known = known2;
              stands = subst (λ (k : ℕ). StandsFor nodes k (function_at t other)) (sym own)
                  (subst (λ (r : Ref). StandsFor nodes h (function_at t r)) same stands);
            }
        | inr apart ↦
            let own : get_or (set numbers slot h) (slot_of n other) 0 ≡ get_or numbers (slot_of n other) 0 =
            get_or-set_other numbers slot (slot_of n other) h 0 apart in
            let earlier : ComesBefore t labels number slot other = elim before as (λ _. ComesBefore t labels number slot other) [
              | inl less ↦ inl less
              | inr later ↦ inr (later.0, omega (arith, later.1, apart))
            ] in
            record {
              known = known2;
              stands = subst (λ (k : ℕ). StandsFor nodes k (function_at t other)) (sym own) (made.made other known2 earlier).stands;
            }
      ];
    }

-- up to the next slot with the label of the claim nothing is missing
pub made_next : (t : TapeView) (labels : List ℕ) (number from slot : ℕ) (nodes : List Triple) (numbers : List ℕ) → IsNext labels number from slot
    → AreMade t labels number from nodes numbers → AreMade t labels number slot nodes numbers
made_next t labels number from slot nodes numbers next made = record {
  size = made.size;
  made = λ ref known before. made.made ref known (elim before as (λ _. ComesBefore t labels number from ref) [
    | inl less ↦ inl less
    | inr later ↦ elim (cases_lt (slot_of (inputs_of t) ref) from) as (λ _. ComesBefore t labels number from ref) [
      | inl early ↦ inr (later.0, early)
      | inr late ↦ absurd (next.none (slot_of (inputs_of t) ref) late later.1 later.0)
    ]
  ]);
}

pub next_label : (labels : List ℕ) (number from slot : ℕ) → IsNext labels number from slot → HasLabel labels number slot
next_label labels number from slot next = record { high = next.high; here = next.here }

-- ---- all numbers of a claim

-- before the first claim there is no number
pub made_none : (t : TapeView) (labels : List ℕ) (nodes : List Triple) (numbers : List ℕ) → length numbers ≡ slots_of t
    → AreMade t labels 0 0 nodes numbers
made_none t labels nodes numbers size = record {
  size = size;
  made = λ ref known before. elim before as (λ _. HasNumber t nodes numbers ref) [
    | inl less ↦ absurd (omega (arith, less))
    | inr later ↦ absurd (omega (arith, later.1))
  ];
}

pub claim_known : (t : TapeView) → IsTape t → (k : ℕ) (claim : Claim) → slice_get t.claims k ≡ Some claim → IsRefOf t claim.of
claim_known t is k claim at = all_at_get (λ (z : Claim). IsRefOf t z.of) t.claims k claim is.claims at

-- each input and write on which the first claims rest has its number
pub all_bases : (t : TapeView) → IsTape t → (labels : List ℕ) → AreLabels t labels → (number : ℕ) → number ≤ claims_of t → (nodes : List Triple)
    (numbers : List ℕ) → AreMade t labels number 0 nodes numbers → HoldsAllBases t number nodes
all_bases t is labels are number few nodes numbers made =
    let claimed : (k : ℕ) (claim : Claim) → k < number → slice_get t.claims k ≡ Some claim → IsRefOf t claim.of × (label_of t labels claim.of < number) =
    λ k claim low at. (claim_known t is k claim at, omega (arith, low, are.claims.low k claim at (omega (arith, low, few)))) in
    let closed : (ref operand : Ref) → IsRefOf t ref × (label_of t labels ref < number) → IsAmong operand (operands_of t ref)
    → IsRefOf t operand × (label_of t labels operand < number) =
    λ ref operand own among. (operand_known t is ref operand own.0 among, omega (arith, own.1, operand_label t labels are ref operand among)) in
    record {
      numbered = λ ref base.
          let found = bases_within t number (λ r. IsRefOf t r × (label_of t labels r < number)) claimed closed ref base in
          record { number = get_or numbers (slot_of (inputs_of t) ref) 0; stands = (made.made ref found.0 (inl found.1)).stands };
    }

-- the claim rests on what has its label
pub base_here : (t : TapeView) (labels : List ℕ) → AreLabels t labels → (number slot : ℕ) → number < claims_of t → (ref : Ref) → IsRefOf t ref
    → slot_of (inputs_of t) ref ≡ slot → get_or labels slot 0 ≡ number → IsBase t (number + 1) ref
base_here t labels are number slot low ref known at label =
    let own : label_of t labels ref ≡ number = ap (λ (s : ℕ). get_or labels s 0) at ∙ label in
    subst (λ (l : ℕ). IsBase t (l + 1) ref) own (are.sound.bases ref known (omega (arith, own, low)))

-- ---- the function of a write

-- of a write that makes a bit of two others, where it is known of any functions of these
pub answer_pair : (t : TapeView) (j : ℕ) (entry : Entry) (a b : Ref) (both : Function → Function → Function)
    (old new : DiagramView) (numbers : List ℕ) (f g : ℕ) (r : Result ℕ DdFault) → slice_get t.entries j ≡ Some entry → operands entry ≡ a ∷ b ∷ []
    → ((l m : Function) → AreSame l (function_at t a) → AreSame m (function_at t b) → AreSame (both l m) (function_at t (refs.Write j)))
    → f ≡ get_or numbers (slot_of (inputs_of t) a) 0 → g ≡ get_or numbers (slot_of (inputs_of t) b) 0
    → AllByRecursion (HasNumber t old.nodes numbers) (operands_of t (refs.Write j))
    → Computes (both (function_of old.nodes f) (function_of old.nodes g)) old new r → Computes (function_at t (refs.Write j)) old new r
answer_pair t j entry a b both old new numbers f g r at two same left right all made =
    let known = two_operands t (HasNumber t old.nodes numbers) j entry a b at two all in
    let one : AreSame (function_of old.nodes f) (function_at t a) =
    subst (λ (n : ℕ). AreSame (function_of old.nodes n) (function_at t a)) (sym left) ((known.0).stands).same in
    let other : AreSame (function_of old.nodes g) (function_at t b) =
    subst (λ (n : ℕ). AreSame (function_of old.nodes n) (function_at t b)) (sym right) ((known.1).stands).same in
    computes_same (function_at t (refs.Write j)) (both (function_of old.nodes f) (function_of old.nodes g)) old new r
    (same (function_of old.nodes f) (function_of old.nodes g) one other) made

-- ---- the limit

-- what refuses a function on which the claims rest says that they pass the limit
pub pass_limit : (t : TapeView) (claims : ℕ) (ref : Ref) (d : DiagramView) → HoldsOnlyMembers t claims d → IsBase t claims ref
    → (fault : DdFault) → MayRefuse (function_at t ref) d fault → PassLimit t claims d fault
pass_limit t claims ref d members base (faults.Full nodes) refused =
    (passes t claims ref (function_at t ref) d nodes members base (λ a. refl) refused, refused.at_limit)
pass_limit t claims ref d members base (faults.Memory _) refused = refused

-- a fault that is handed on has its cause
pub refused_at : {A E : Type 0} (Q : E → Type 0) (r : Result A E) (e : E) → IsErrAnd r (λ x. x ≡ e) → Q e → IfErr r Q
refused_at Q (Ok a) e at q = absurd at
refused_at Q (Err x) e at q = subst Q (sym at) q
