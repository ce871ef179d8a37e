-- How many gates a split list has, and so whether there is one.
use Rattle.std.proofs.Common.{◌≡◌, ◌≢◌, ℕ, zero, suc, ◌+◌, ◌-◌, ◌*◌, ◌<◌, ◌≤◌, Bool, false, not, cond, leb, eqb, List, [], ◌∷◌, ◌++◌, length, get_or, take}
use Rattle.std.proofs.Common.{Option, Some, None, Result, Ok, Err, refl, sym, ap, ◌∙◌, subst, inl, inr, arith}
use Rattle.std.specs.List.{AllByRecursion}
use Rattle.std.proofs.lemmas.Bool.Decides.{leb_tells, eqb_tells}
use Rattle.std.proofs.lemmas.List.{length-append, length-map, nil_from_length, take_all}
use Rattle.list_facts.specs.Lists.{AreDifferent}
use Rattle.mct_circuit.specs.declared.gate.Control.{Control}
use Rattle.mct_circuit.specs.declared.gate.Op.TheVariants.{Flip, Swap}
use Rattle.mct_circuit.specs.Gates.{GateView, IsGateOn, flip_of}
use Rattle.mct_circuit.specs.Sizes.{has_line, negative_controls}
use Rattle.gate_split.specs.declared.fault.SplitFault.{SplitFault}
use Rattle.gate_split.specs.declared.fault.SplitFault.TheVariants.{NoIdle, Gates, Memory}
use Rattle.gate_split.specs.inside.Counts.{CountsFlips, count_of, count_with, counted_on}
use Rattle.gate_split.specs.Split.{HasSplitList, IsSplit, falling_lines, idle_lines, flips_of_negatives, over_few_lines, split_positive, split_gate}
use Rattle.gate_split.specs.Split.{behind, between, split_gates}
use Rattle.gate_split.proofs.CostLemmas.{costs}
use Rattle.gate_split.proofs.EffectLemmas.{different_of, below_of}
use Rattle.gate_split.proofs.FallingLineLemmas.{false_true, length-in_falling_order}
use Rattle.gate_split.proofs.NegativeLemmas.{lines}
use Rattle.gate_split.proofs.PieceLemmas.{few_stay, flip_on, swap_on, flip_piece, swap_piece}
use Rattle.gate_split.proofs.RoomyFlipLemmas.{HasFirst, some_gates, length-flips_of_negatives}
use Rattle.gate_split.proofs.SplitListLemmas.{one_further}

-- ---- idle lines

-- a line passes the test or does not
falls_apart : (test : ℕ → Bool) (n : ℕ) → length (falling_lines (λ line. not (test line)) n) + length (falling_lines test n) ≡ n
falls_apart test zero = refl
falls_apart test (suc n) =
    let rest = falls_apart test n in elim (false_true (test n)) [ inl t ↦ rw t (omega arith) | inr t ↦ rw t (omega arith) ]

idle_count : (n : ℕ) (used : List ℕ) → AreDifferent used → AllByRecursion (λ x. x < n) used → length (idle_lines n used) + length used ≡ n
idle_count n used d r =
    sym (ap (λ k. length (idle_lines n used) + k) (length-in_falling_order n used d r)) ∙ falls_apart (λ line. has_line line used) n

flip_idle : (n : ℕ) (controls : List ℕ) (target : ℕ) → IsGateOn n (flip_of controls target)
    → length (idle_lines n (controls ++ target ∷ [])) + length controls + 1 ≡ n
flip_idle n controls target on =
    let all = idle_count n (controls ++ target ∷ []) (different_of n controls target on) (below_of n controls target on) in
    let long = length-append controls (target ∷ []) in
    omega arith

long_lines : (gate : GateView) → length (lines gate.controls) ≡ length gate.controls
long_lines gate = length-map gate.controls (λ (control : Control). control.line)

pub flip_fits : (n : ℕ) (gate : GateView) (target own : ℕ) → gate.op ≡ Flip target → IsGateOn n gate → own ≡ length gate.controls → own < n
flip_fits n gate target own o on is =
    let idle = flip_idle n (lines gate.controls) target (flip_on n gate target (lines gate.controls) o refl on) in
    let long = long_lines gate in
    omega arith

long_swap : (gate : GateView) (first : ℕ) → length (lines gate.controls ++ first ∷ []) ≡ length gate.controls + 1
long_swap gate first = length-append (lines gate.controls) (first ∷ []) ∙ ap (λ k. k + 1) (long_lines gate)

pub swap_fits : (n : ℕ) (gate : GateView) (first second own : ℕ) → gate.op ≡ Swap first second → IsGateOn n gate → own ≡ length gate.controls → own + 1 < n
swap_fits n gate first second own o on is =
    let controls = lines gate.controls ++ first ∷ [] in
    let idle = flip_idle n controls second (swap_on n gate first second controls o refl on) in
    let long = long_swap gate first in
    omega arith

-- ---- flips

filled : (xs : List ℕ) → 1 ≤ length xs → HasFirst xs
filled [] h = absurd (omega arith)
filled (x ∷ xs) h = record { first = x; others = xs; parts = refl }

many : (k : ℕ) → 2 < k → leb k 2 ≡ false
many k h = elim (leb_tells k 2) [ inl t ↦ absurd (omega (arith, t.1)) | inr t ↦ t.0 ]

count_is : (around : ℕ) (piece : Option (List GateView)) (gates : List GateView) (count : ℕ) → piece ≡ Some gates → length gates + around ≡ count
    → count_with around piece ≡ Some count
count_is around piece gates count e h = ap (count_with around) e ∙ ap Some h

pub few_flips : (n controls around : ℕ) → controls ≤ 2 → CountsFlips n controls around (Some (1 + around))
few_flips n controls around few = record {
  counts = λ ls target on long. count_is around (split_positive n ls target) (flip_of ls target ∷ []) (1 + around) (few_stay n ls target (omega arith))
      (omega arith);
}

pub over_flips : (n controls around idle : ℕ) → 2 < controls → idle + controls + 1 ≡ n → controls - 2 ≤ idle
    → CountsFlips n controls around (Some (4 * (controls - 2) + around))
over_flips n controls around idle wide all enough = record {
  counts = λ ls target on long.
      let found = flip_idle n ls target on in
      let some = some_gates n ls target (many (length ls) (omega arith)) (filled (idle_lines n (ls ++ target ∷ [])) (omega arith)) in
      let cost : length some.0 ≡ 4 * (length ls - 2) = (costs n ls target some.0 on (omega arith) some.1).with_enough (omega arith) in
      count_is around (split_positive n ls target) some.0 (4 * (controls - 2) + around) some.1
      (ap (λ m. m + around) (cost ∙ ap (λ k. 4 * (k - 2)) long));
}

none_idle : (n : ℕ) (controls : List ℕ) (target : ℕ) → 2 < length controls → idle_lines n (controls ++ target ∷ []) ≡ []
    → split_positive n controls target ≡ None
none_idle n controls target wide none =
    let zero_long = ap length none in
    elim (leb_tells (length controls - 2) (length (idle_lines n (controls ++ target ∷ [])))) [
      | inl t ↦ absurd (omega (arith, t.1, zero_long))
      | inr t ↦ rw (many (length controls) wide, t.0) (ap (over_few_lines n controls target) none)
    ]

pub no_flips : (n controls around idle : ℕ) → 2 < controls → idle + controls + 1 ≡ n → idle ≡ 0 → CountsFlips n controls around None
no_flips n controls around idle wide all none = record {
  counts = λ ls target on long.
      let found = flip_idle n ls target on in
      ap (count_with around)
      (none_idle n ls target (omega arith) (nil_from_length (idle_lines n (ls ++ target ∷ [])) (omega arith)));
}

half_flips : (n controls around idle : ℕ) → 2 < controls → idle + controls + 1 ≡ n → idle < controls - 2 → 1 ≤ idle
    → CountsFlips n controls around (Some (cond (eqb controls 4) 10 (8 * (controls - 3)) + around))
half_flips n controls around idle wide all few one = record {
  counts = λ ls target on long.
      let found = flip_idle n ls target on in
      let some = some_gates n ls target (many (length ls) (omega arith)) (filled (idle_lines n (ls ++ target ∷ [])) (omega arith)) in
      let cost : length some.0 ≡ cond (eqb (length ls) 4) 10 (8 * (length ls - 3)) =
      (costs n ls target some.0 on (omega arith) some.1).with_few (omega arith) in
      count_is around (split_positive n ls target) some.0 (cond (eqb controls 4) 10 (8 * (controls - 3)) + around) some.1
      (ap (λ m. m + around) (cost ∙ ap (λ k. cond (eqb k 4) 10 (8 * (k - 3))) long));
}

pub four_flips : (n controls around idle : ℕ) → 2 < controls → idle + controls + 1 ≡ n → idle < controls - 2 → 1 ≤ idle → controls ≡ 4
    → CountsFlips n controls around (Some (10 + around))
four_flips n controls around idle wide all few one is = elim (eqb_tells controls 4) [
  | inl t ↦ subst (λ (b : Bool). CountsFlips n controls around (Some (cond b 10 (8 * (controls - 3)) + around))) t.0
      (half_flips n controls around idle wide all few one)
  | inr t ↦ absurd (t.1 is)
]

pub more_flips : (n controls around idle : ℕ) → 2 < controls → idle + controls + 1 ≡ n → idle < controls - 2 → 1 ≤ idle → controls ≢ 4
    → CountsFlips n controls around (Some (8 * (controls - 3) + around))
more_flips n controls around idle wide all few one other = elim (eqb_tells controls 4) [
  | inl t ↦ absurd (other t.1)
  | inr t ↦ subst (λ (b : Bool). CountsFlips n controls around (Some (cond b 10 (8 * (controls - 3)) + around))) t.0
      (half_flips n controls around idle wide all few one)
]

-- ---- gates

between_count : (outer : List GateView) (piece : Option (List GateView)) (around : ℕ)
    → count_with around (between outer piece) ≡ count_with (around + 2 * length outer) piece
between_count outer None around = refl
between_count outer (Some inner) around =
    ap Some (let front = length-append outer inner in let whole = length-append (outer ++ inner) outer in omega arith)

count_alone : (piece : Option (List GateView)) → count_of piece ≡ count_with 0 piece
count_alone None = refl
count_alone (Some gates) = ap Some (omega arith)

pub flip_counted : (n : ℕ) (gate : GateView) (target own negatives : ℕ) (count : Option ℕ) → gate.op ≡ Flip target → IsGateOn n gate
    → own ≡ length gate.controls → negatives ≡ negative_controls gate.controls → CountsFlips n own (2 * negatives) count
    → count ≡ count_of (split_gate n gate)
flip_counted n gate target own negatives count o on long few c =
    let controls = lines gate.controls in
    let outer = flips_of_negatives gate.controls in
    let inner = split_positive n controls target in
    let all : 0 + 2 * length outer ≡ 2 * negatives = (let flips = length-flips_of_negatives gate.controls in omega arith) in
    sym (count_alone (split_gate n gate) ∙ ap (count_with 0) (flip_piece n gate target gate.controls controls o refl refl)
    ∙ between_count outer inner 0 ∙ ap (λ k. count_with k inner) all
    ∙ c.counts controls target (flip_on n gate target controls o refl on) (long_lines gate ∙ sym long))

pub swap_counted : (n : ℕ) (gate : GateView) (first second own negatives : ℕ) (count : Option ℕ) → gate.op ≡ Swap first second → IsGateOn n gate
    → own ≡ length gate.controls → negatives ≡ negative_controls gate.controls → CountsFlips n (own + 1) (2 * negatives + 2) count
    → count ≡ count_of (split_gate n gate)
swap_counted n gate first second own negatives count o on long few c =
    let controls = lines gate.controls ++ first ∷ [] in
    let outer = flips_of_negatives gate.controls in
    let flips : List GateView = flip_of (second ∷ []) first ∷ [] in
    let inner = split_positive n controls second in
    let all : (0 + 2 * length flips) + 2 * length outer ≡ 2 * negatives + 2 = (let count = length-flips_of_negatives gate.controls in omega arith) in
    sym (count_alone (split_gate n gate) ∙ ap (count_with 0) (swap_piece n gate first second gate.controls controls o refl refl)
    ∙ between_count flips (between outer inner) 0 ∙ between_count outer inner (0 + 2 * length flips) ∙ ap (λ k. count_with k inner) all
    ∙ c.counts controls second (swap_on n gate first second controls o refl on) (long_swap gate first ∙ ap (λ k. k + 1) (sym long)))

-- ---- the walk

-- the gates that were passed have gates in their place, so many
pub record Counted (n count : ℕ) (passed : List GateView) : Type 0 where
  pub done : List GateView
  pub is : split_gates n passed ≡ Some done
  pub long : length done ≡ count

counted_behind : (n limit place count now : ℕ) (done passed : List GateView) (piece : Option (List GateView))
    → split_gates n passed ≡ behind done piece → length done ≡ count
    → ◌≡◌ {A = Result ℕ SplitFault} (Ok now) (counted_on count (count_of piece) place limit) → Counted n now passed
counted_behind n limit place count now done passed None is long e = absurd (cc)
counted_behind n limit place count now done passed (Some piece) is long e =
    let all : length (done ++ piece) ≡ count + length piece = length-append done piece ∙ ap (λ k. k + length piece) long in
    elim (leb_tells (count + length piece) limit) [
      | inl t ↦ (let took : ◌≡◌ {A = Result ℕ SplitFault} (Ok now) (Ok (count + length piece)) = rw t.0 at e in
          let same : count + length piece ≡ now = cc in record { done = done ++ piece; is = is; long = all ∙ same })
      | inr t ↦ absurd (let no : ◌≡◌ {A = Result ℕ SplitFault} (Ok now) (Err Gates) = rw t.0 at e in cc)
    ]

stops_behind : (n limit place count : ℕ) (fault : SplitFault) (gates done : List GateView) (piece : Option (List GateView))
    → split_gates n (take place gates) ≡ Some done → split_gates n (take (place + 1) gates) ≡ behind done piece → length done ≡ count → count ≤ limit
    → ◌≡◌ {A = Result ℕ SplitFault} (Err fault) (counted_on count (count_of piece) place limit) → IsSplit n limit gates (Err fault)
stops_behind n limit place count fault gates done None passed is long few e =
    let same : NoIdle place ≡ fault = cc in
    subst (λ f. IsSplit n limit gates (Err f)) same
    (record { before = record { narrow = done; split = record { is = passed; within = omega arith } }; none = is })
stops_behind n limit place count fault gates done (Some piece) passed is long few e =
    let all : length (done ++ piece) ≡ count + length piece = length-append done piece ∙ ap (λ k. k + length piece) long in
    elim (leb_tells (count + length piece) limit) [
      | inl t ↦ absurd (let no : ◌≡◌ {A = Result ℕ SplitFault} (Err fault) (Ok (count + length piece)) = rw t.0 at e in cc)
      | inr t ↦ (let full : ◌≡◌ {A = Result ℕ SplitFault} (Err fault) (Err Gates) = rw t.0 at e in
          let same : Gates ≡ fault = cc in
          subst (λ f. IsSplit n limit gates (Err f)) same (record {
            place = place;
            before = record { narrow = done; split = record { is = passed; within = omega arith } };
            over = done ++ piece;
            is = is;
            passes = omega (arith, t.1, all);
          }))
    ]

pub counting_begun : (n : ℕ) (gates : List GateView) → Counted n 0 (take 0 gates)
counting_begun n gates = record { done = []; is = refl; long = refl }

pub counted_more : (n limit place count now : ℕ) (gates : List GateView) (i : ℕ) (gate : GateView) (more : Option ℕ) → i < length gates
    → gate ≡ get_or gates i gate → more ≡ count_of (split_gate n gate)
    → ◌≡◌ {A = Result ℕ SplitFault} (Ok now) (counted_on count more place limit) → Counted n count (take i gates) → Counted n now (take (i + 1) gates)
counted_more n limit place count now gates i gate more h at m e c =
    counted_behind n limit place count now c.done (take (i + 1) gates) (split_gate n gate) (one_further n gates i gate c.done h at c.is) c.long (rw m at e)

pub counting_stops : (n limit place count : ℕ) (fault : SplitFault) (gates : List GateView) (i : ℕ) (gate : GateView) (more : Option ℕ) → i < length gates
    → gate ≡ get_or gates i gate → more ≡ count_of (split_gate n gate) → place ≡ i → count ≤ limit
    → ◌≡◌ {A = Result ℕ SplitFault} (Err fault) (counted_on count more place limit) → Counted n count (take i gates)
    → IsSplit n limit gates (Err fault)
counting_stops n limit place count fault gates i gate more h at m same few e c =
    stops_behind n limit place count fault gates c.done (split_gate n gate) (rw same c.is) (rw same (one_further n gates i gate c.done h at c.is)) c.long few
    (rw m at e)

pub counting_ends : (n limit count : ℕ) (gates : List GateView) (i : ℕ) → length gates ≤ i → count ≤ limit → Counted n count (take i gates)
    → HasSplitList n limit gates
counting_ends n limit count gates i h few c =
    let long = c.long in
    record { narrow = c.done; split = record { is = ap (split_gates n) (sym (take_all i gates h)) ∙ c.is; within = omega arith } }

pub counted_fits : (limit place count now : ℕ) (more : Option ℕ) → ◌≡◌ {A = Result ℕ SplitFault} (Ok now) (counted_on count more place limit) → now ≤ limit
counted_fits limit place count now None e = absurd (cc)
counted_fits limit place count now (Some more) e = elim (leb_tells (count + more) limit) [
  | inl t ↦ (let is : ◌≡◌ {A = Result ℕ SplitFault} (Ok now) (Ok (count + more)) = rw t.0 at e in let same : now ≡ count + more = cc in
      let few = t.1 in omega arith)
  | inr t ↦ absurd (let no : ◌≡◌ {A = Result ℕ SplitFault} (Ok now) (Err Gates) = rw t.0 at e in cc)
]

-- no memory is wanted
pub never_memory : (limit place count : ℕ) (fault : SplitFault) (more : Option ℕ)
    → ◌≡◌ {A = Result ℕ SplitFault} (Err fault) (counted_on count more place limit) → fault ≢ Memory _
never_memory limit place count fault None e is = let same : NoIdle place ≡ fault = cc in cc
never_memory limit place count fault (Some more) e is = elim (leb_tells (count + more) limit) [
  | inl t ↦ (let no : ◌≡◌ {A = Result ℕ SplitFault} (Err fault) (Ok (count + more)) = rw t.0 at e in cc)
  | inr t ↦ (let same : ◌≡◌ {A = Result ℕ SplitFault} (Err fault) (Err Gates) = rw t.0 at e in cc)
]
