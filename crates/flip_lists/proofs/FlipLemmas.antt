-- Flips that are alike, and flips that are free of each other.
use Rattle.std.proofs.Common.{◌≡◌, ℕ, Bool, true, false, not, ◌&&◌, eqb, List, [], ◌∷◌, length, refl, sym, ap, ◌∙◌, subst, inl, inr}
use Rattle.std.proofs.lemmas.Bool.{cases_eq, and_parts, and_from, or_cases, or_parts, not-true, not_from_false, both_ways, false≢true}
use Rattle.std.proofs.lemmas.Bool.{false_from_ne_true, eqb-true, eqb-false, eq-eqb}
use Rattle.list_facts.specs.Bits.{bit_of}
use Rattle.mct_circuit.specs.Gates.{after_gate, IsGateOn}
use Rattle.mct_circuit.specs.Sizes.{has_line}
use Rattle.mct_circuit.proofs.ReversalLemmas.{after_gate-after_gate}
use Rattle.gate_split.specs.Split.{Avoids}
use Rattle.gate_split.proofs.FlipLemmas.{all_on, flip_when, all_on-flip, flips_commute}
use Rattle.flip_lists.specs.declared.flip.Flip.{Flip}
use Rattle.flip_lists.specs.Flips.{controls_of, gate_of, are_among, are_alike, are_free}

-- ---- sets of lines

pub among_has : (line : ℕ) (these those : List ℕ) → are_among these those ≡ true → has_line line these ≡ true → has_line line those ≡ true
among_has line [] those all has = absurd (false≢true has)
among_has line (x ∷ xs) those all has =
    let parts = and_parts (has_line x those) (are_among xs those) all in
    elim (or_cases (eqb line x) (has_line line xs) has) [
      | inl e ↦ subst (λ l. has_line l those ≡ true) (sym (eqb-true line x e)) parts.0
      | inr later ↦ among_has line xs those parts.1 later
    ]

pub among_lacks : (line : ℕ) (these those : List ℕ) → are_among these those ≡ true → has_line line those ≡ false → has_line line these ≡ false
among_lacks line these those all lacks =
    false_from_ne_true (has_line line these) (λ has. both_ways (has_line line those) lacks (among_has line these those all has))

pub avoids : (line : ℕ) (lines : List ℕ) → has_line line lines ≡ false → Avoids line lines
avoids line [] lacks = tt
avoids line (x ∷ xs) lacks =
    let parts = or_parts (eqb line x) (has_line line xs) lacks in
    (eqb-false line x parts.0, avoids line xs parts.1)

on_at : (bits : List Bool) (line : ℕ) (lines : List ℕ) → has_line line lines ≡ true → all_on bits lines ≡ true → bit_of bits line ≡ true
on_at bits line [] has on = absurd (false≢true has)
on_at bits line (x ∷ xs) has on =
    let parts = and_parts (bit_of bits x) (all_on bits xs) on in
    elim (or_cases (eqb line x) (has_line line xs) has) [
      | inl e ↦ subst (λ l. bit_of bits l ≡ true) (sym (eqb-true line x e)) parts.0
      | inr later ↦ on_at bits line xs later parts.1
    ]

on_among : (bits : List Bool) (these those : List ℕ) → are_among these those ≡ true → all_on bits those ≡ true → all_on bits these ≡ true
on_among bits [] those all on = refl
on_among bits (x ∷ xs) those all on =
    let parts = and_parts (has_line x those) (are_among xs those) all in
    and_from (bit_of bits x) (all_on bits xs) (on_at bits x those parts.0 on) (on_among bits xs those parts.1 on)

pub same_tests : (a b : Bool) → (a ≡ true → b ≡ true) → (b ≡ true → a ≡ true) → a ≡ b
same_tests true b forth back = sym (forth refl)
same_tests false true forth back = back refl
same_tests false false forth back = refl

-- ---- what the tests say

pub record AreAlike (one other : Flip) : Type 0 where
  pub target : one.target ≡ other.target
  pub forth : are_among (controls_of one) (controls_of other) ≡ true
  pub back : are_among (controls_of other) (controls_of one) ≡ true

pub alike_says : (one other : Flip) → are_alike one other ≡ true → AreAlike one other
alike_says one other alike =
    let parts = and_parts (eqb one.target other.target) (are_among (controls_of one) (controls_of other) && are_among (controls_of other)
    (controls_of one)) alike in
    let sets = and_parts (are_among (controls_of one) (controls_of other)) (are_among (controls_of other) (controls_of one)) parts.1 in
    record { target = eqb-true one.target other.target parts.0; forth = sets.0; back = sets.1 }

pub alike_from : (one other : Flip) → AreAlike one other → are_alike one other ≡ true
alike_from one other says =
    and_from (eqb one.target other.target) (are_among (controls_of one) (controls_of other) && are_among (controls_of other) (controls_of one))
    (eq-eqb one.target other.target says.target)
    (and_from (are_among (controls_of one) (controls_of other)) (are_among (controls_of other) (controls_of one)) says.forth says.back)

pub alike_swap : (one other : Flip) → are_alike one other ≡ true → are_alike other one ≡ true
alike_swap one other alike =
    let says = alike_says one other alike in
    alike_from other one (record { target = sym says.target; forth = says.back; back = says.forth })

pub record AreFree (one other : Flip) : Type 0 where
  pub first : has_line one.target (controls_of other) ≡ false
  pub second : has_line other.target (controls_of one) ≡ false

pub free_says : (one other : Flip) → are_free one other ≡ true → AreFree one other
free_says one other free =
    let parts = and_parts (not (has_line one.target (controls_of other))) (not (has_line other.target (controls_of one))) free in
    record { first = not-true (has_line one.target (controls_of other)) parts.0; second = not-true (has_line other.target (controls_of one)) parts.1 }

pub free_from : (one other : Flip) → AreFree one other → are_free one other ≡ true
free_from one other says =
    and_from (not (has_line one.target (controls_of other))) (not (has_line other.target (controls_of one)))
    (not_from_false (has_line one.target (controls_of other)) says.first)
    (not_from_false (has_line other.target (controls_of one)) says.second)

pub free_swap : (one other : Flip) → are_free one other ≡ true → are_free other one ≡ true
free_swap one other free =
    let says = free_says one other free in free_from other one (record { first = says.second; second = says.first })

-- what is free of a flip is free of each flip like it
pub free_of_alike : (flip one other : Flip) → are_alike one other ≡ true → are_free flip one ≡ true → are_free flip other ≡ true
free_of_alike flip one other alike free =
    let same = alike_says one other alike in
    let apart = free_says flip one free in
    free_from flip other (record {
      first = among_lacks flip.target (controls_of other) (controls_of one) same.back apart.first;
      second = subst (λ t. has_line t (controls_of flip) ≡ false) same.target apart.second;
    })

-- ---- what flips do

abbrev pub after : Flip → List Bool → List Bool
after flip bits = after_gate (gate_of flip) bits

same_line : (a b : Bool) (line : ℕ) (bits : List Bool) → flip_when a line (flip_when b line bits) ≡ flip_when b line (flip_when a line bits)
same_line true true line bits = refl
same_line true false line bits = refl
same_line false true line bits = refl
same_line false false line bits = refl

one_target : (R S : List ℕ) (t : ℕ) (bits : List Bool) → Avoids t S → Avoids t R
    → flip_when (all_on (flip_when (all_on bits R) t bits) S) t (flip_when (all_on bits R) t bits)
    ≡ flip_when (all_on (flip_when (all_on bits S) t bits) R) t (flip_when (all_on bits S) t bits)
one_target R S t bits apart_s apart_r =
    rw (all_on-flip (all_on bits R) t bits S apart_s, all_on-flip (all_on bits S) t bits R apart_r) (same_line (all_on bits S) (all_on bits R) t bits)

pub free_flips_commute : (one other : Flip) (bits : List Bool) → are_free one other ≡ true → after one (after other bits) ≡ after other (after one bits)
free_flips_commute one other bits free =
    let says = free_says one other free in
    let first = avoids one.target (controls_of other) says.first in
    let second = avoids other.target (controls_of one) says.second in
    elim (cases_eq other.target one.target) [
      | inl same ↦ commute_there (controls_of one) (controls_of other) one.target other.target bits same first second
      | inr differ ↦ flips_commute (controls_of other) (controls_of one) other.target one.target bits differ second first
    ]
  where
    commute_there : (R S : List ℕ) (t u : ℕ) (bits : List Bool) → u ≡ t → Avoids t S → Avoids u R
        → flip_when (all_on (flip_when (all_on bits S) u bits) R) t (flip_when (all_on bits S) u bits)
        ≡ flip_when (all_on (flip_when (all_on bits R) t bits) S) u (flip_when (all_on bits R) t bits)
    commute_there R S t u bits e apart_t apart_u = rw e (one_target S R t bits (rw e at apart_u) apart_t)

pub alike_flips_act_alike : (one other : Flip) (bits : List Bool) → are_alike one other ≡ true → after one bits ≡ after other bits
alike_flips_act_alike one other bits alike =
    let says = alike_says one other alike in
    let on : all_on bits (controls_of one) ≡ all_on bits (controls_of other) =
    same_tests (all_on bits (controls_of one)) (all_on bits (controls_of other))
    (on_among bits (controls_of other) (controls_of one) says.back) (on_among bits (controls_of one) (controls_of other) says.forth) in
    ap (λ b. flip_when b one.target bits) on ∙ ap (λ t. flip_when (all_on bits (controls_of other)) t bits) says.target

pub alike_flips_undo : (one other : Flip) (bits : List Bool) → are_alike one other ≡ true → IsGateOn (length bits) (gate_of other)
    → after one (after other bits) ≡ bits
alike_flips_undo one other bits alike on =
    alike_flips_act_alike one other (after other bits) alike ∙ after_gate-after_gate (gate_of other) bits on
