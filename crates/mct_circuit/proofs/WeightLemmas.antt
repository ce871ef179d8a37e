-- Weights of gates; a gate has at most as many controls as there are lines.
use Rattle.std.proofs.Common.{◌≡◌, ◌≢◌, ℕ, ◌<◌, ◌≤◌, ◌^◌, ◌+◌, Bool, eqb, true, false, ◌||◌, List, [], ◌∷◌, length, get_or, take, map, reverse, arith, sym}
use Rattle.std.proofs.Common.{refl, subst, inl, inr}
use mir.Val.{bool_byte}
use Rattle.std.specs.List.{AllByRecursion, list_any, IsDistinct, count_by}
use Rattle.std.specs.List.{sum_by}
use Rattle.std.proofs.lemmas.List.{length-map}
use Rattle.std.proofs.lemmas.List.Sums.{count_by_more_yes, count_by_more_no, sum_by-cons}
use Rattle.std.proofs.lemmas.List.Sorted.{IsPermutation-reverse, sum_by-IsPermutation}
use Rattle.std.proofs.lemmas.Bool.{cases_lt, le-leb, lt-leb, ne_eqb}
use Rattle.std.proofs.lemmas.Bool.Decides.{eqb_tells}
use Rattle.std.proofs.lemmas.Map.Steps.{length-le_from_distinct_below}
use Rattle.mct_circuit.specs.declared.gate.Control.{Control}
use Rattle.mct_circuit.specs.declared.gate.Op.{Op}
use Rattle.mct_circuit.specs.declared.gate.Op.TheVariants.{Flip, Swap}
use Rattle.mct_circuit.specs.Sizes.{flip_weight, op_weight, weight_of}
use Rattle.mct_circuit.specs.Gates.{GateView, HasDifferentLines, targets_of}
use Rattle.list_facts.specs.Lists.{AreDifferent}
use Rattle.list_facts.proofs.AllLemmas.{AllByRecursion-map}
use Rattle.list_facts.proofs.OrderLemmas.{AreDifferent-left}

unequal : (x : ℕ) (ys : List ℕ) → AllByRecursion (λ y. x ≢ y) ys → AllByRecursion (λ y. eqb x y ≡ false) ys
unequal x [] d = tt
unequal x (y ∷ ys) d = (ne_eqb x y d.0, unequal x ys d.1)

distinct : (xs : List ℕ) → AreDifferent xs → IsDistinct eqb xs
unfolding IsDistinct
distinct [] d = tt
distinct (x ∷ xs) d = (unequal x xs d.0, distinct xs d.1)

or_cases : (a b : Bool) → (a || b) ≡ true → a ≡ false → b ≡ true
or_cases true b e n = absurd (cc)
or_cases false b e n = e

member_below : (n : ℕ) (xs : List ℕ) → AllByRecursion (λ x. x < n) xs → (q : ℕ) → list_any (eqb q) xs ≡ true → q < n
member_below n [] b q e = absurd (cc)
member_below n (x ∷ xs) b q e =
    elim (eqb_tells q x) [ inl s ↦ subst (λ k. k < n) (sym s.1) b.0 | inr s ↦ member_below n xs b.1 q (or_cases (eqb q x) (list_any (eqb q) xs) e s.0) ]

pub few_controls : (gate : GateView) → HasDifferentLines gate → AllByRecursion (λ (control : Control). control.line < 2 ^ 32) gate.controls
    → length gate.controls ≤ 2 ^ 32
few_controls gate d b =
    let lines = map (λ (control : Control). control.line) gate.controls in
    let few : length lines ≤ 2 ^ 32 = length-le_from_distinct_below lines (2 ^ 32) (distinct lines (AreDifferent-left lines (targets_of gate.op) d))
    (member_below (2 ^ 32) lines (AllByRecursion-map (λ line. line < 2 ^ 32) (λ (control : Control). control.line) gate.controls b)) in
    rw (length-map gate.controls (λ (control : Control). control.line)) at few

counted_by : {X : Type 0} (p : X → Bool) (xs : List X) (i : ℕ) (d : X) (b : Bool) → i < length xs → p (get_or xs i d) ≡ b
    → count_by p (take i xs) + bool_byte b ≡ count_by p (take (i + 1) xs)
counted_by p xs i d true h e = sym (count_by_more_yes p xs i d h e)
counted_by p xs i d false h e = let same = count_by_more_no p xs i d h e in omega arith

pub counted : {X : Type 0} (p : X → Bool) (xs : List X) (i : ℕ) (d : X) (n : ℕ) → i < length xs → n ≡ count_by p (take i xs)
    → n + bool_byte (p (get_or xs i d)) ≡ count_by p (take (i + 1) xs)
counted p xs i d n h e = rw e (counted_by p xs i d (p (get_or xs i d)) h refl)

pub at_most_one : (b : Bool) → bool_byte b ≤ 1
at_most_one true = omega arith
at_most_one false = omega arith

-- ---- weights

flip_weight-positive : (n : ℕ) → 1 ≤ flip_weight n
flip_weight-positive n = elim (cases_lt 2 n) [
  | inl p ↦ rw (lt-leb n 2 p) (omega arith)
  | inr p ↦ rw (le-leb n 2 p) (omega arith)
]

op_weight-positive : (op : Op) (n : ℕ) → 1 ≤ op_weight op n
op_weight-positive (Flip target) n = flip_weight-positive n
op_weight-positive (Swap first second) n = omega arith

-- each gate weighs at least 1
pub weight-positive : (gate : GateView) → 1 ≤ weight_of gate
weight-positive gate =
    let some = op_weight-positive gate.op (length gate.controls) in
    omega arith

-- a list of gates has at most as many gates as it weighs
pub length-le-weight : (gates : List GateView) → length gates ≤ sum_by weight_of gates
length-le-weight [] = omega arith
length-le-weight (gate ∷ gates) =
    let one = weight-positive gate in
    let rest = length-le-weight gates in
    omega (arith, sum_by-cons weight_of gate gates)

-- a reversed list weighs the same
pub weight-reverse : (gates : List GateView) → sum_by weight_of (reverse gates) ≡ sum_by weight_of gates
weight-reverse gates = sum_by-IsPermutation weight_of gates (reverse gates) (IsPermutation-reverse gates)
