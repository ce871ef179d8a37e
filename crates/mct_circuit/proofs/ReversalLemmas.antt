-- A gate undoes itself, and a list of gates in reversed order undoes the list.
use Rattle.std.proofs.Common.{◌≡◌, ◌≢◌, ℕ, ◌<◌, Bool, true, false, not, cond, List, [], ◌∷◌, ◌++◌, length, map, take, get_or, reverse, swap, set, refl, sym, ap}
use Rattle.std.proofs.Common.{◌+◌, ◌∙◌, subst, arith}
use Rattle.std.specs.List.{AllByRecursion, list_all}
use Rattle.std.proofs.Math.Bool.{not-not}
use Rattle.std.proofs.lemmas.List.{length-set, get_or-set_same, get_or-set_other, set-set, set_comm, set-get_or, get_or_default, reverse-append}
use Rattle.std.proofs.lemmas.List.{reverse-reverse, take_more}
use Rattle.list_facts.proofs.AllLemmas.{AllByRecursion-append, AllByRecursion-right, AllByRecursion-reverse, AllByRecursion-take}
use Rattle.list_facts.proofs.OrderLemmas.{AreDifferent-parts}
use Rattle.mct_circuit.specs.declared.gate.Control.{Control}
use Rattle.mct_circuit.specs.declared.gate.Op.{Op}
use Rattle.mct_circuit.specs.declared.gate.Op.TheVariants.{Flip, Swap}
use Rattle.mct_circuit.specs.Gates.{GateView, is_met, after_op, after_gate, line_map, targets_of, lines_of, HasDifferentLines, IsGateOn, AreGatesOn}
use Rattle.mct_circuit.specs.Gates.{ReversedUndoes, flip_of}
use Rattle.list_facts.specs.Bits.{bit_of}
use Rattle.list_facts.specs.Lists.{AreDifferent}

-- ---- one operation

pub swap_is : (bits : List Bool) (a b : ℕ) → a < length bits → b < length bits → swap bits a b ≡ set (set bits a (bit_of bits b)) b (bit_of bits a)
swap_is [] a b p q = refl
swap_is (d ∷ ys) a b p q = rw (get_or_default (d ∷ ys) a d false p, get_or_default (d ∷ ys) b d false q)

pub length-after_op : (op : Op) (bits : List Bool) → AllByRecursion (λ line. line < length bits) (targets_of op) → length (after_op op bits) ≡ length bits
length-after_op (Flip t) bits r = length-set bits t (not (bit_of bits t))
length-after_op (Swap a b) bits r = rw (swap_is bits a b r.0 r.1.0) (length-set (set bits a (bit_of bits b)) b (bit_of bits a)
    ∙ length-set bits a (bit_of bits b))

-- an operation leaves the bits of all other lines
pub bit_of-after_op : (op : Op) (bits : List Bool) (line : ℕ) → AllByRecursion (λ l. l < length bits) (targets_of op)
    → AllByRecursion (λ t. line ≢ t) (targets_of op) → bit_of (after_op op bits) line ≡ bit_of bits line
bit_of-after_op (Flip t) bits line r d = get_or-set_other bits t line (not (bit_of bits t)) false d.0
bit_of-after_op (Swap a b) bits line r d =
    rw (swap_is bits a b r.0 r.1.0) (get_or-set_other (set bits a (bit_of bits b)) b line (bit_of bits a) false d.1.0
    ∙ get_or-set_other bits a line (bit_of bits b) false d.0)

swap-swap : (bits : List Bool) (a b : ℕ) → a < length bits → b < length bits → a ≢ b → swap (swap bits a b) a b ≡ bits
swap-swap bits a b p q ne =
    let A = bit_of bits a in
    let B = bit_of bits b in
    let once = set (set bits a B) b A in
    let long : length once ≡ length bits = length-set (set bits a B) b A ∙ length-set bits a B in
    let in_a : a < length once = omega arith in
    let in_b : b < length once = omega arith in
    let long_a : length (set bits a B) ≡ length bits = length-set bits a B in
    let at_b : bit_of once b ≡ A = get_or-set_same (set bits a B) b A false (omega arith) in
    let at_a : bit_of once a ≡ B = get_or-set_other (set bits a B) b a A false ne ∙ get_or-set_same bits a B false p in
    rw (
      swap_is bits a b p q,
      swap_is once a b in_a in_b,
      at_b,
      at_a,
      set_comm (set bits a B) b a A A (λ e. ne (sym e)),
      set-set bits a B A,
      set-set (set bits a A) b A B,
      set-get_or bits a false,
    )
    (set-get_or bits b false)

-- an operation undoes itself
pub after_op-after_op : (op : Op) (bits : List Bool) → AllByRecursion (λ l. l < length bits) (targets_of op) → AreDifferent (targets_of op)
    → after_op op (after_op op bits) ≡ bits
after_op-after_op (Flip t) bits r d =
    let same : bit_of (set bits t (not (bit_of bits t))) t ≡ not (bit_of bits t) = get_or-set_same bits t (not (bit_of bits t)) false r.0 in
    rw same (set-set bits t (not (bit_of bits t)) (not (not (bit_of bits t))) ∙ rw not-not (set-get_or bits t false))
after_op-after_op (Swap a b) bits r d = swap-swap bits a b r.0 r.1.0 d.0.0

-- ---- one gate

-- the controls are met after the operation exactly where they were before
are_met-after_op : (op : Op) (bits : List Bool) (controls : List Control) → AllByRecursion (λ l. l < length bits) (targets_of op)
    → AllByRecursion (λ x. AllByRecursion (λ t. x ≢ t) (targets_of op)) (map (λ (control : Control). control.line) controls)
    → list_all (is_met (after_op op bits)) controls ≡ list_all (is_met bits) controls
are_met-after_op op bits [] r d = refl
are_met-after_op op bits (c ∷ cs) r d =
    let same : bit_of (after_op op bits) c.line ≡ bit_of bits c.line = bit_of-after_op op bits c.line r d.0 in
    rw (same, are_met-after_op op bits cs r d.1)

length-if : (b : Bool) (bits changed : List Bool) → length changed ≡ length bits → length (cond b changed bits) ≡ length bits
length-if true bits changed e = e
length-if false bits changed e = refl

pub length-after_gate : (gate : GateView) (bits : List Bool) → IsGateOn (length bits) gate → length (after_gate gate bits) ≡ length bits
length-after_gate gate bits g =
    length-if (list_all (is_met bits) gate.controls) bits (after_op gate.op bits)
    (length-after_op gate.op bits (AllByRecursion-right (λ line. line < length bits) (map (λ (control : Control). control.line) gate.controls)
    (targets_of gate.op) g.in_range))

-- a change made where a test passes undoes itself, if it passes the test again and undoes itself where made
if-twice : (b : Bool) (test : List Bool → Bool) (change : List Bool → List Bool) (bits : List Bool) → test bits ≡ b → test (change bits) ≡ test bits
    → change (change bits) ≡ bits
    → cond (test (cond b (change bits) bits)) (change (cond b (change bits) bits)) (cond b (change bits) bits) ≡ bits
if-twice true test change bits e same back = rw (same, e) back
if-twice false test change bits e same back = rw e refl

pub after_gate-after_gate : (gate : GateView) (bits : List Bool) → IsGateOn (length bits) gate → after_gate gate (after_gate gate bits) ≡ bits
after_gate-after_gate gate bits g =
    let controlling = map (λ (control : Control). control.line) gate.controls in
    let apart = AreDifferent-parts controlling (targets_of gate.op) g.different in
    let low = AllByRecursion-right (λ line. line < length bits) controlling (targets_of gate.op) g.in_range in
    if-twice (list_all (is_met bits) gate.controls) (λ b. list_all (is_met b) gate.controls) (after_op gate.op) bits refl
    (are_met-after_op gate.op bits gate.controls low apart.0)
    (after_op-after_op gate.op bits low apart.1)

-- ---- lists of gates

pub line_map-append : (xs ys : List GateView) (bits : List Bool) → line_map (xs ++ ys) bits ≡ line_map ys (line_map xs bits)
line_map-append [] ys bits = refl
line_map-append (x ∷ xs) ys bits = line_map-append xs ys (after_gate x bits)

pub length-line_map : (gates : List GateView) (bits : List Bool) → AreGatesOn (length bits) gates → length (line_map gates bits) ≡ length bits
length-line_map [] bits g = refl
length-line_map (x ∷ xs) bits g =
    let same = length-after_gate x bits g.0 in
    length-line_map xs (after_gate x bits) (subst (λ n. AreGatesOn n xs) (sym same) g.1) ∙ same

pub reversed_behind : (gates : List GateView) (bits : List Bool) → AreGatesOn (length bits) gates → line_map (reverse gates) (line_map gates bits) ≡ bits
reversed_behind [] bits g = refl
reversed_behind (x ∷ xs) bits g =
    let same = length-after_gate x bits g.0 in
    let rest : line_map (reverse xs) (line_map xs (after_gate x bits)) ≡ after_gate x bits =
    reversed_behind xs (after_gate x bits) (subst (λ n. AreGatesOn n xs) (sym same) g.1) in
    rw (reverse-append (x ∷ []) xs, line_map-append (reverse xs) (x ∷ []), rest) (after_gate-after_gate x bits g.0)

pub reversed_undoes : ReversedUndoes
reversed_undoes gates bits g = record {
  behind = reversed_behind gates bits g;
  before = rw reverse-reverse at (reversed_behind (reverse gates) bits (AllByRecursion-reverse (IsGateOn (length bits)) gates g));
}

-- ---- compute, copy, uncompute

-- where the computing gates take s to u and s' to u', and the copying gates take u to u', all of them take s to s'
pub conjugated : (computing copying : List GateView) (s u s' u' : List Bool) → AreGatesOn (length s') computing
    → line_map computing s ≡ u → line_map computing s' ≡ u' → line_map copying u ≡ u'
    → line_map (computing ++ copying ++ reverse computing) s ≡ s'
conjugated computing copying s u s' u' on forth forth' copy =
    line_map-append (computing ++ copying) (reverse computing) s
    ∙ ap (line_map (reverse computing)) (line_map-append computing copying s ∙ ap (line_map copying) forth ∙ copy ∙ sym forth')
    ∙ reversed_behind computing s' on

-- ---- a flip by its lines

pub lines_of-flip_of : (controls : List ℕ) (target : ℕ) → lines_of (flip_of controls target) ≡ controls ++ target ∷ []
lines_of-flip_of [] target = refl
lines_of-flip_of (c ∷ cs) target = ap (λ ls. c ∷ ls) (lines_of-flip_of cs target)

-- ---- what a circuit keeps as it grows

pub AreGatesOn-push : (n : ℕ) (gates : List GateView) (gate : GateView) → AreGatesOn n gates → HasDifferentLines gate
    → AllByRecursion (λ line. line < n) (lines_of gate) → AreGatesOn n (gates ++ gate ∷ [])
AreGatesOn-push n gates gate g d r = AllByRecursion-append (IsGateOn n) gates (gate ∷ []) g (record { different = d; in_range = r }, tt)

pub AreGatesOn-mirror : (n count : ℕ) (gates : List GateView) → AreGatesOn n gates → AreGatesOn n (reverse (take count gates))
AreGatesOn-mirror n count gates g = AllByRecursion-reverse (IsGateOn n) (take count gates) (AllByRecursion-take (IsGateOn n) count gates g)

-- one more gate was copied
pub copied_more : (gates : List GateView) (place : ℕ) (gate copy : GateView) (so_far now : List GateView) → place < length gates
    → gate ≡ get_or gates place gate → copy ≡ gate → now ≡ so_far ++ copy ∷ [] → so_far ≡ take place gates → now ≡ take (place + 1) gates
copied_more gates place gate copy so_far now inside at is pushed copied =
    pushed ∙ ap (λ (front : List GateView). front ++ copy ∷ []) copied ∙ ap (λ (g : GateView). take place gates ++ g ∷ []) (is ∙ at)
    ∙ sym (take_more gates place gate inside)
