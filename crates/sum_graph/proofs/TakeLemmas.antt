-- What the slots keep when the sum of a base is taken from them.
use Rattle.std.proofs.Common.{◌≡◌, ◌≢◌, ℕ, zero, suc, ◌+◌, ◌≤◌, Bool, false, List, [], ◌∷◌, ◌++◌, length, slice_get, slice_set, Some}
use Rattle.std.proofs.Common.{refl, sym, ap, ◌∙◌, subst, inl, inr, arith}
use Rattle.std.specs.Bool.{xor}
use Rattle.std.specs.List.{sum_by}
use Rattle.std.proofs.lemmas.Bool.{cases_eq}
use Rattle.std.proofs.lemmas.List.{length-set}
use Rattle.std.proofs.lemmas.List.Sums.{sum_by-cons}
use Rattle.std.proofs.lemmas.Option.{none-some, same_Some}
use Rattle.list_facts.specs.Bits.{bit_of}
use Rattle.list_facts.proofs.BitLemmas.{xor_none, xor_nothing}
use Rattle.dependency_graph.specs.declared.node.Base.{Base}
use Rattle.dependency_graph.specs.declared.node.Base.TheVariants as bases
use Rattle.dependency_graph.specs.Graphs.{IsKnownBase, node_of}
use Rattle.claim_check.specs.Settled.{SettledView}
use Rattle.bit_sums.specs.Growing.{FactorView, IsSumOf, IsTimes}
use Rattle.bit_sums.specs.Sums.{SumView, weight_of}
use Rattle.sum_graph.specs.declared.slot.Slot.{Slot}
use Rattle.sum_graph.specs.declared.slot.Slot.TheVariants as slots
use Rattle.sum_graph.specs.inside.Walks.{AreSlots, IsAnd, IsFactorOf, IsSlot, IsStanding, IsStandingNode, IsTaken, IsXor}
use Rattle.sum_graph.specs.Lone.{times_in}
use Rattle.sum_graph.specs.inside.Walks.{StandsFor, slot_products, slot_weight}
use Rattle.sum_graph.proofs.SumNodeLemmas.{known_base}
use Rattle.sum_graph.proofs.UseLemmas.{times_behind, times_first}

-- another slot than the one that is written stays
pub other_slot : (some : List Slot) (k j : ℕ) (x : Slot) → j ≢ k → slice_get (slice_set some k x) j ≡ slice_get some j
other_slot [] k j x ne = refl
other_slot (y ∷ ys) zero zero x ne = absurd (ne refl)
other_slot (y ∷ ys) zero (suc j) x ne = refl
other_slot (y ∷ ys) (suc k) zero x ne = refl
other_slot (y ∷ ys) (suc k) (suc j) x ne = other_slot ys k j x (λ e. ne (ap suc e))

-- the slot that is written
written_slot : (some : List Slot) (k : ℕ) (x slot : Slot) → slice_get (slice_set some k x) k ≡ Some slot → x ≡ slot
written_slot [] k x slot e = absurd (none-some slot e)
written_slot (y ∷ ys) zero x slot e = same_Some x slot e
written_slot (y ∷ ys) (suc k) x slot e = written_slot ys k x slot e

-- taking one operand leaves the other one standing
pub still_standing : (a b : Base) (old new : List Slot) (sum : SumView) → a ≢ b → IsStanding old b → IsTaken a old new sum → IsStanding new b
still_standing a (bases.Input i) old new sum ne b taken = tt
still_standing (bases.Input i) (bases.Node k) old new sum ne b taken = subst (λ some. IsStandingNode some k) (sym taken.0) b
still_standing (bases.Node j) (bases.Node k) old new sum ne b taken = elim taken as (λ _. IsStandingNode new k) [
  | inl copied ↦ subst (λ some. IsStandingNode some k) (sym copied.same) b
  | inr moved ↦
      let other : k ≢ j = λ e. ne (ap bases.Node (sym e)) in
      subst (λ some. IsStandingNode some k) (sym moved.gone)
      (record { within = omega (arith, length-set old j slots.Moved, b.within); stands = λ e. b.stands (sym (other_slot old j k slots.Moved other) ∙ e) })
]

-- the sum of two operands that were taken, one after the other
pub summed : (a b : Base) (old between new : List Slot) (left right : SumView) → IsTaken a old between left → IsTaken b between new right
    → (sum : SumView) → IsSumOf left right sum → IsXor a b old new sum
summed a b old between new left right first second sum is =
    record { left = left; right = right; between = between; first = first; second = second; is = is }

-- the product of two factors
pub multiplied : (a b : Base) (old : List Slot) (left right : FactorView) → IsFactorOf old a left → IsFactorOf old b right
    → (sum : SumView) → IsTimes left right sum → IsAnd a b old old sum
multiplied a b old left right first second sum is =
    record { left = left; right = right; first = first; second = second; same = refl; is = is }

-- ---- what the slots keep

-- fewer uses are to come
slot_less : (s : SettledView) (nodes : List SumView) (shared : List Bool) (front left : List ℕ) (k : ℕ) (slot : Slot)
    → IsSlot s nodes shared (front ++ left) k slot → IsSlot s nodes shared left k slot
slot_less s nodes shared front left k slots.Moved is = omega (arith, times_behind k front left, is)
slot_less s nodes shared front left k (slots.Sum sum) is = is
slot_less s nodes shared front left k (slots.Factor factor) is = is

pub slots_less : (s : SettledView) (nodes : List SumView) (shared : List Bool) (front left : List ℕ) (some : List Slot)
    → AreSlots s nodes shared (front ++ left) some → AreSlots s nodes shared left some
slots_less s nodes shared front left some are = record {
  once = λ k no. omega (arith, times_behind k front left, are.once k no);
  each = λ k slot e. slot_less s nodes shared front left k slot (are.each k slot e);
}

moved_keeps : (s : SettledView) (nodes : List SumView) (shared : List Bool) (left : List ℕ) (k : ℕ) (old : List Slot) (sum : SumView)
    → AreSlots s nodes shared (k ∷ left) old → slice_get old k ≡ Some (slots.Sum sum) → AreSlots s nodes shared left (slice_set old k slots.Moved)
moved_keeps s nodes shared left k old sum are found = record {
  once = λ j no. omega (arith, times_behind j (k ∷ []) left, are.once j no);
  each = λ j slot e. elim (cases_eq j k) as (λ _. IsSlot s nodes shared left j slot) [
    | inl same ↦
        let written : slots.Moved ≡ slot = written_slot old k slots.Moved slot (subst (λ i. slice_get (slice_set old k slots.Moved) i ≡ Some slot) same e) in
        let none : times_in k left ≡ 0 = omega (arith, times_first k left, are.once k (are.each k (slots.Sum sum) found).1) in
        subst (IsSlot s nodes shared left j) written (subst (λ i. times_in i left ≡ 0) (sym same) none)
    | inr ne ↦
        let other : j ≢ k = ne in
        slot_less s nodes shared (k ∷ []) left j slot (are.each j slot (sym (other_slot old k j slots.Moved other) ∙ e))
  ];
}

pub taken_keeps : (s : SettledView) (nodes : List SumView) (shared : List Bool) (left : List ℕ) (base : Base) (old new : List Slot) (sum : SumView)
    → AreSlots s nodes shared (node_of base ++ left) old → IsTaken base old new sum → AreSlots s nodes shared left new
taken_keeps s nodes shared left (bases.Input i) old new sum are taken = subst (AreSlots s nodes shared left) (sym taken.0) are
taken_keeps s nodes shared left (bases.Node k) old new sum are taken = elim taken as (λ _. AreSlots s nodes shared left new) [
  | inl copied ↦ subst (AreSlots s nodes shared left) (sym copied.same) (slots_less s nodes shared (k ∷ []) left old are)
  | inr moved ↦ subst (AreSlots s nodes shared left) (sym moved.gone) (moved_keeps s nodes shared left k old sum are moved.found)
]

-- ---- what is taken

one_bit : (b : Bool) → xor false (xor (xor b false) false) ≡ b
one_bit b = xor_none (xor (xor b false) false) ∙ xor_nothing (xor b false) ∙ xor_nothing b

pub taken_stands : (s : SettledView) (nodes : List SumView) (shared : List Bool) (left : List ℕ) (base : Base) (k : ℕ) (old new : List Slot) (sum : SumView)
    → IsKnownBase s.inputs k base → AreSlots s nodes shared left old → IsTaken base old new sum → StandsFor s nodes base sum
taken_stands s nodes shared left (bases.Input i) k old new sum known are taken = subst (StandsFor s nodes (bases.Input i)) (sym taken.1) (record {
  known = record { bits = (known_base s.inputs (length nodes) (bases.Input i) known, tt); products = tt };
  values = λ input. one_bit (bit_of input i);
})
taken_stands s nodes shared left (bases.Node j) k old new sum known are taken = elim taken as (λ _. StandsFor s nodes (bases.Node j) sum) [
  | inl copied ↦ subst (StandsFor s nodes (bases.Node j)) (sym copied.is) (are.each j (slots.Factor copied.factor) copied.found).0
  | inr moved ↦ (are.each j (slots.Sum sum) moved.found).0
]

-- ---- what is counted

sum_by-set : {A : Type 0} (f : A → ℕ) (xs : List A) (k : ℕ) (old new : A) → slice_get xs k ≡ Some old
    → sum_by f (slice_set xs k new) + f old ≡ sum_by f xs + f new
sum_by-set f [] k old new e = absurd (none-some old e)
sum_by-set f (x ∷ xs) zero old new e = rw (same_Some x old e) (omega (arith, sum_by-cons f old xs, sum_by-cons f new xs))
sum_by-set f (x ∷ xs) (suc k) old new e =
    omega (arith, sum_by-set f xs k old new e, sum_by-cons f x xs, sum_by-cons f x (slice_set xs k new))

pub taken_products : (base : Base) (old new : List Slot) (sum : SumView) → IsTaken base old new sum
    → sum_by slot_products new + length sum.products ≡ sum_by slot_products old
taken_products (bases.Input i) old new sum taken = rw (taken.0, taken.1) (omega arith)
taken_products (bases.Node k) old new sum taken =
    elim taken as (λ _. sum_by slot_products new + length sum.products ≡ sum_by slot_products old) [
      | inl copied ↦ rw (copied.same, copied.is) (omega arith)
      | inr moved ↦ rw moved.gone (omega (arith, sum_by-set slot_products old k (slots.Sum sum) slots.Moved moved.found))
    ]

pub taken_weight : (base : Base) (old new : List Slot) (sum : SumView) → IsTaken base old new sum
    → sum_by slot_weight new + weight_of sum ≤ sum_by slot_weight old + 4
taken_weight (bases.Input i) old new sum taken = rw (taken.0, taken.1) (omega arith)
taken_weight (bases.Node k) old new sum taken = elim taken as (λ _. sum_by slot_weight new + weight_of sum ≤ sum_by slot_weight old + 4) [
  | inl copied ↦ rw (copied.same, copied.is) (omega (arith, copied.short.few))
  | inr moved ↦ rw moved.gone (omega (arith, sum_by-set slot_weight old k (slots.Sum sum) slots.Moved moved.found))
]
