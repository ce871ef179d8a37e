-- Flips that have at most two controls or an idle line are split.
use Rattle.std.proofs.Common.{◌≡◌, ℕ, zero, suc, ◌+◌, ◌-◌, ◌*◌, ◌<◌, ◌≤◌, ◌⊎◌, Bool, true, false, not, cond, leb, List, [], ◌∷◌, ◌++◌, length, take, Some}
use Rattle.std.proofs.Common.{Option, refl, sym, ap, ◌∙◌, subst, inl, inr, arith}
use Rattle.std.specs.List.{AllByRecursion, sum_by}
use Rattle.std.proofs.lemmas.Bool.{cases_lt}
use Rattle.std.proofs.lemmas.Bool.Decides.{leb_tells}
use Rattle.std.proofs.lemmas.List.{length-append, length-map}
use Rattle.std.proofs.lemmas.List.Recursion.{is_count_by}
use Rattle.std.proofs.lemmas.List.Sums.{count_by-le-length, sum_by-cons}
use Rattle.mct_circuit.specs.declared.gate.Control.{Control}
use Rattle.mct_circuit.specs.declared.gate.Op.TheVariants.{Flip}
use Rattle.mct_circuit.specs.Gates.{GateView, IsGateOn, flip_of, lines_of, targets_of}
use Rattle.mct_circuit.specs.Sizes.{has_line, negative_controls, op_weight, weight_of}
use Rattle.list_facts.proofs.AllLemmas.{AllByRecursion-take, AllByRecursion-weaker}
use Rattle.gate_split.specs.Costs.{most_gates, IsRoomyFlip, RoomyFlipsAreSplit}
use Rattle.gate_split.specs.Split.{Avoids, falling_lines, idle_lines, flips_of_negatives, over_few_lines, over_idle_lines, in_halves, split_positive, split_op}
use Rattle.gate_split.specs.Split.{WantsIdle, split_gate, split_gates, between, behind, joined}
use Rattle.gate_split.proofs.CostLemmas.{costs}
use Rattle.gate_split.proofs.FallingLineLemmas.{false_true, falling_yes, falling_no, no_member}
use Rattle.gate_split.proofs.NegativeLemmas.{lines}
use Rattle.gate_split.proofs.PieceLemmas.{flip_on}

-- ---- an idle line is found

pub record HasFirst (xs : List ℕ) : Type 0 where
  pub first : ℕ
  pub others : List ℕ
  pub parts : xs ≡ first ∷ others

-- where a line passes the test, a line is found
some_falls : (test : ℕ → Bool) (n line : ℕ) → line < n → test line ≡ true → HasFirst (falling_lines test n)
some_falls test zero line low e = absurd (omega arith)
some_falls test (suc n) line low e = elim (false_true (test n)) [
  | inl passes ↦ record { first = n; others = falling_lines test n; parts = falling_yes test n passes }
  | inr fails ↦ elim (cases_lt line n) [
    | inl below ↦ (let rest = some_falls test n line below e in
        record { first = rest.first; others = rest.others; parts = falling_no test n fails ∙ rest.parts })
    | inr above ↦ absurd (let same : line ≡ n = omega arith in let both : true ≡ false = sym e ∙ ap test same ∙ fails in cc)
  ]
]

some_idle : (n line : ℕ) (used : List ℕ) → line < n → Avoids line used → HasFirst (idle_lines n used)
some_idle n line used low apart =
    some_falls (λ l. not (has_line l used)) n line low (ap not (no_member line used apart))

-- ---- one flip

-- there are gates in their place, at most so many
record IsPiece (piece : Option (List GateView)) (most : ℕ) : Type 0 where
  gates : List GateView
  is : piece ≡ Some gates
  few : length gates ≤ most

abbrev most_positive : ℕ → ℕ
most_positive k = cond (leb k 2) 1 (8 * k)

few_controls : (n : ℕ) (controls : List ℕ) (target : ℕ) → leb (length controls) 2 ≡ true
    → IsPiece (split_positive n controls target) (most_positive (length controls))
few_controls n controls target e = record { gates = flip_of controls target ∷ []; is = rw e refl; few = rw e (omega arith) }

-- some gates stand in place of a flip of three controls or more that has an idle line
pub some_gates : (n : ℕ) (controls : List ℕ) (target : ℕ) → leb (length controls) 2 ≡ false → HasFirst (idle_lines n (controls ++ target ∷ []))
    → (gates : List GateView) × (split_positive n controls target ≡ Some gates)
some_gates n controls target e idle =
    let found = idle_lines n (controls ++ target ∷ []) in
    elim (leb_tells (length controls - 2) (length found)) [
      | inl t ↦ (over_idle_lines controls target (take (length controls - 2) found), rw (e, t.0) refl)
      | inr t ↦ (in_halves n controls target idle.first, rw (e, t.0) (ap (over_few_lines n controls target) idle.parts))
    ]

many_controls : (n : ℕ) (controls : List ℕ) (target : ℕ) → leb (length controls) 2 ≡ false → 3 ≤ length controls → IsGateOn n (flip_of controls target)
    → HasFirst (idle_lines n (controls ++ target ∷ []))
    → IsPiece (split_positive n controls target) (most_positive (length controls))
many_controls n controls target e many on idle =
    let some = some_gates n controls target e idle in
    record { gates = some.0; is = some.1; few = rw e (costs n controls target some.0 on many some.1).at_most }

positive_piece : (n : ℕ) (controls : List ℕ) (target : ℕ) → IsGateOn n (flip_of controls target) → (length controls ≤ 2)
    ⊎ HasFirst (idle_lines n (controls ++ target ∷ []))
    → IsPiece (split_positive n controls target) (most_positive (length controls))
positive_piece n controls target on room = elim (leb_tells (length controls) 2) [
  | inl t ↦ few_controls n controls target t.0
  | inr t ↦ elim room [
    | inl few ↦ absurd (omega (arith, t.1))
    | inr idle ↦ many_controls n controls target t.0 (omega (arith, t.1)) on idle
  ]
]

length-cons-if : (b : Bool) (gate : GateView) (gates : List GateView) → length (cond b gates (gate ∷ gates)) ≡ cond (not b) (1 + length gates) (length gates)
length-cons-if true gate gates = refl
length-cons-if false gate gates = omega arith

-- a flip stands for each negative control
pub length-flips_of_negatives : (controls : List Control) → length (flips_of_negatives controls) ≡ negative_controls controls
length-flips_of_negatives controls =
    is_count_by (λ (cs : List Control). length (flips_of_negatives cs)) (λ (control : Control). not control.positive) refl
    (λ c cs. length-cons-if c.positive (flip_of [] c.line) (flips_of_negatives cs)) controls

-- between flips of the negative controls there are two more for each
between_piece : (outer : List GateView) (piece : Option (List GateView)) (most : ℕ) → IsPiece piece most
    → IsPiece (between outer piece) (most + 2 * length outer)
between_piece outer piece most p =
    let few = p.few in
    let inner = length-append p.gates outer in
    let whole = length-append (outer ++ p.gates) outer in
    let front = length-append outer p.gates in
    record { gates = outer ++ p.gates ++ outer; is = ap (between outer) p.is; few = omega arith }

gate_piece : (n : ℕ) (gate : GateView) → IsRoomyFlip n gate → IsPiece (split_gate n gate) (most_gates gate)
gate_piece n gate flip =
    let on = flip_on n gate flip.target (lines gate.controls) flip.is_flip refl flip.on in
    let long : length (lines gate.controls) ≡ length gate.controls = length-map gate.controls (λ (control : Control). control.line) in
    let used : lines_of gate ≡ lines gate.controls ++ flip.target ∷ [] = ap (λ op. lines gate.controls ++ targets_of op) flip.is_flip in
    let room : (length (lines gate.controls) ≤ 2) ⊎ HasFirst (idle_lines n (lines gate.controls ++ flip.target ∷ [])) = elim flip.room [
      | inl few ↦ inl (omega arith)
      | inr idle ↦ inr (some_idle n idle.line _ idle.below (subst (Avoids idle.line) used idle.idle))
    ] in
    let inner = positive_piece n (lines gate.controls) flip.target on room in
    let whole = between_piece (flips_of_negatives gate.controls) (split_positive n (lines gate.controls) flip.target)
    (most_positive (length (lines gate.controls))) inner in
    let negatives = length-flips_of_negatives gate.controls in
    let most : most_positive (length (lines gate.controls)) + 2 * length (flips_of_negatives gate.controls) ≡ most_gates gate =
    ap (λ k. most_positive k + 2 * length (flips_of_negatives gate.controls)) long ∙ ap (λ m. most_positive (length gate.controls) + 2 * m) negatives in
    record {
      gates = whole.gates;
      is = ap (split_op n gate.controls) flip.is_flip ∙ whole.is;
      few = subst (λ m. length whole.gates ≤ m) most whole.few;
    }

-- ---- many gates

record HasFew (n : ℕ) (gates : List GateView) : Type 0 where
  narrow : List GateView
  is : split_gates n gates ≡ Some narrow
  few : length narrow ≤ sum_by most_gates gates

gates_few : (n : ℕ) (gates : List GateView) → AllByRecursion (IsRoomyFlip n) gates → HasFew n gates
gates_few n [] roomy = record { narrow = []; is = refl; few = omega arith }
gates_few n (gate ∷ gates) roomy =
    let piece = gate_piece n gate roomy.0 in
    let rest = gates_few n gates roomy.1 in
    let few = piece.few in
    let more = rest.few in
    let long = length-append piece.gates rest.narrow in
    let sum = sum_by-cons most_gates gate gates in
    record {
      narrow = piece.gates ++ rest.narrow;
      is = ap (λ o. joined o (split_gates n gates)) piece.is ∙ ap (behind piece.gates) rest.is;
      few = omega arith;
    }

-- ---- the law

weight_within : (n : ℕ) (gate : GateView) → IsRoomyFlip n gate → weight_of gate ≤ most_gates gate
weight_within n gate flip =
    let k = length gate.controls in
    let same : weight_of gate ≡ op_weight (Flip flip.target) k + 2 * negative_controls gate.controls =
    ap (λ op. op_weight op k + 2 * negative_controls gate.controls) flip.is_flip in
    elim (leb_tells k 2) [
      | inl t ↦ rw (same, t.0) (omega arith)
      | inr t ↦ rw (same, t.0) (omega arith)
    ]

most_within : (gate : GateView) → most_gates gate ≤ 10 * length gate.controls + 1
most_within gate =
    let some = count_by-le-length (λ (control : Control). not control.positive) gate.controls in
    elim (leb_tells (length gate.controls) 2) [ inl t ↦ rw t.0 (omega arith) | inr t ↦ rw t.0 (omega arith) ]

never_idle : (n limit place : ℕ) (gates : List GateView) → AllByRecursion (IsRoomyFlip n) gates → WantsIdle n limit gates place → ⊥
never_idle n limit place gates roomy wants =
    let some = gates_few n (take (place + 1) gates) (AllByRecursion-take (IsRoomyFlip n) (place + 1) gates roomy) in
    let both = sym wants.none ∙ some.is in cc

-- on more lines
pub more_room : (n more : ℕ) (gate : GateView) → n ≤ more → IsRoomyFlip n gate → IsRoomyFlip more gate
more_room n more gate le flip = record {
  on = record {
    different = flip.on.different;
    in_range = AllByRecursion-weaker (λ line. line < n) (λ line. line < more) (λ line low. omega (arith, low, le)) (lines_of gate) flip.on.in_range;
  };
  target = flip.target;
  is_flip = flip.is_flip;
  room = elim flip.room [
    | inl few ↦ inl few
    | inr idle ↦ inr (record { line = idle.line; below = omega (arith, idle.below, le); idle = idle.idle })
  ];
}

pub roomy_flips : RoomyFlipsAreSplit
roomy_flips = record {
  idle = λ n limit place gates roomy wants. never_idle n limit place gates roomy wants;
  wider = λ n more gates le roomy. AllByRecursion-weaker (IsRoomyFlip n) (IsRoomyFlip more) (λ gate flip. more_room n more gate le flip) gates roomy;
  split = λ n limit gates roomy fits. let all = gates_few n gates roomy in
      let few = all.few in record { narrow = all.narrow; is = record { is = all.is; within = omega arith }; few = few };
  weight = weight_within;
  each = most_within;
}
