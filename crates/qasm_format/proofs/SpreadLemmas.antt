-- The gates that arguments stand for, as the reader makes them.
use Rattle.std.proofs.Common.{◌≡◌, ◌≢◌, ℕ, zero, suc, ◌+◌, ◌<◌, ◌≤◌, ◌==◌, Bool, true, false, not, ◌||◌, cond, ◌⊎◌, inl, inr, List, [], ◌∷◌, ◌++◌, length, map}
use Rattle.std.proofs.Common.{get_or, drop, Option, Some, None, refl, sym, ap, ◌∙◌, subst, arith, append_assoc}
use Rattle.std.specs.List.{AllByRecursion, list_any, range_with_len}
use Rattle.std.specs.Option.{unwrap_or}
use Rattle.std.proofs.lemmas.Bool.{false≢true, eqb-true, eqb-false, eq-eqb, cases_lt, and_parts, and_from, not-true}
use Rattle.std.proofs.lemmas.Option.{none-some, same_Some}
use Rattle.std.proofs.lemmas.List.{map-append, length_push, drop_all}
use Rattle.std.proofs.lemmas.List.FromFn.{get_or-map-range_with_len, length-map-range_with_len, map-range_with_len_more}
use Rattle.list_facts.specs.Lists.{AreDifferent}
use Rattle.list_facts.proofs.AllLemmas.{AllByRecursion-both, AllByRecursion-map, AllByRecursion-range, AllByRecursion-at}
use Rattle.mct_circuit.specs.Gates.{GateView, HasDifferentLines, lines_of, IsGateOn}
use Rattle.mct_circuit.proofs.ReversalLemmas.{lines_of-flip_of}
use Rattle.qasm_format.specs.declared.spots.Spot.{Spot}
use Rattle.qasm_format.specs.declared.spots.Spot.TheVariants.{Line, Whole}
use Rattle.qasm_format.specs.Registers.{line_at, HasSize, IsLine, AreSpread}
use Rattle.qasm_format.specs.Stages.{gate_at, StandForGates}
use Rattle.qasm_format.specs.inside.Spread.{shared, shared_on, shared_by, are_different, AreAllDifferent, MeetSomewhere, ArePushed}
use Rattle.qasm_format.specs.inside.Says.{SpotBelow, AddsGates, StandForFew, StandForNone, PassGates}

-- ---- how many gates

pub shared_stop : (spots : List Spot) (i : ℕ) (d : Spot) (count : Option ℕ) → i < length spots → shared count (get_or spots i d) ≡ None
    → shared_by count (drop i spots) ≡ None
shared_stop (s ∷ ss) zero d count low e = ap (λ r. shared_on r (λ c. shared_by c ss)) e
shared_stop (s ∷ ss) (suc i) d count low e = shared_stop ss i d count (omega arith) e
shared_stop [] i d count low e = absurd (omega arith)

kept : (n : ℕ) (spots : List Spot) (found : Option ℕ) → shared_by (Some n) spots ≡ Some found → (Some n ≡ found) × AllByRecursion (HasSize n) spots
kept n [] found e = (same_Some (Some n) found e, tt)
kept n (Line at ∷ spots) found e = let more = kept n spots found e in (more.0, (tt, more.1))
kept n (Whole first size ∷ spots) found e = by (size == n) refl (λ same f. kept n spots found (sym (ap (λ m. shared_by (Some m) spots) same) ∙ f))
  where
    by : (t : Bool) → (size == n) ≡ t → (size ≡ n → shared_by (Some size) spots ≡ Some found → (Some n ≡ found) × AllByRecursion (HasSize n) spots)
        → (Some n ≡ found) × AllByRecursion (HasSize n) (Whole first size ∷ spots)
    by true same more =
        let equal = eqb-true size n same in
        let rest = more equal (sym (ap (λ t. shared_on (cond t (Some (Some size)) None) (λ c. shared_by c spots)) same) ∙ e) in
        (rest.0, (equal, rest.1))
    by false other more =
        absurd (none-some found (sym (ap (λ t. shared_on (cond t (Some (Some size)) None) (λ c. shared_by c spots)) other) ∙ e))

-- what was found: no register, or the size of all registers
abbrev Verdict : List Spot → Option ℕ → Type 0
Verdict spots None = AllByRecursion IsLine spots
Verdict spots (Some n) = AllByRecursion (HasSize n) spots × (AllByRecursion IsLine spots → ⊥)

line_verdict : (at : ℕ) (spots : List Spot) (found : Option ℕ) → Verdict spots found → Verdict (Line at ∷ spots) found
line_verdict at spots None h = (tt, h)
line_verdict at spots (Some n) h = ((tt, h.0), λ lines. h.1 lines.1)

verdict_of : (spots : List Spot) (found : Option ℕ) → shared_by None spots ≡ Some found → Verdict spots found
verdict_of [] found e = subst (Verdict []) (same_Some None found e) tt
verdict_of (Line at ∷ spots) found e = line_verdict at spots found (verdict_of spots found e)
verdict_of (Whole first size ∷ spots) found e =
    let more = kept size spots found e in subst (Verdict (Whole first size ∷ spots)) more.0 ((refl, more.1), λ lines. lines.0)

lines_have_sizes : (n : ℕ) (spots : List Spot) → AllByRecursion IsLine spots → AllByRecursion (HasSize n) spots
lines_have_sizes n [] h = tt
lines_have_sizes n (Line at ∷ spots) h = (tt, lines_have_sizes n spots h.1)
lines_have_sizes n (Whole first size ∷ spots) h = absurd h.0

spread_so : (spots : List Spot) (found : Option ℕ) → Verdict spots found → AreSpread spots (unwrap_or found 1)
spread_so spots None h = record { shared = lines_have_sizes 1 spots h; alone = λ lines. refl }
spread_so spots (Some n) h = record { shared = h.0; alone = λ lines. absurd (h.1 lines) }

pub count_found : (spots : List Spot) (found : Option ℕ) → shared_by None spots ≡ Some found → AreSpread spots (unwrap_or found 1)
count_found spots found e = spread_so spots found (verdict_of spots found e)

all_kept : (n : ℕ) (spots : List Spot) → AllByRecursion (HasSize n) spots → shared_by (Some n) spots ≡ Some (Some n)
all_kept n [] h = refl
all_kept n (Line at ∷ spots) h = all_kept n spots h.1
all_kept n (Whole first size ∷ spots) h =
    ap (λ t. shared_on (cond t (Some (Some size)) None) (λ c. shared_by c spots)) (eq-eqb size n h.0) ∙ ap (λ m. shared_by (Some m) spots) h.0
    ∙ all_kept n spots h.1

never_none : (n : ℕ) (spots : List Spot) → AllByRecursion (HasSize n) spots → shared_by None spots ≡ None → ⊥
never_none n [] h e = none-some None (sym e)
never_none n (Line at ∷ spots) h e = never_none n spots h.1 e
never_none n (Whole first size ∷ spots) h e = none-some (Some n) (sym e ∙ ap (λ m. shared_by (Some m) spots) h.0 ∙ all_kept n spots h.1)

pub none_left : (spots : List Spot) (i : ℕ) (count : Option ℕ) → length spots ≤ i → shared_by count (drop i spots) ≡ Some count
none_left spots i count over = ap (shared_by count) (drop_all i spots over)

pub no_count : (spots : List Spot) → shared_by None spots ≡ None → (count : ℕ) → ¬ AreSpread spots count
no_count spots e count spread = never_none count spots spread.shared e

one_size : (n m : ℕ) (spots : List Spot) → AllByRecursion (HasSize n) spots → AllByRecursion (HasSize m) spots → (n ≡ m) ⊎ AllByRecursion IsLine spots
one_size n m [] h k = inr tt
one_size n m (Whole first size ∷ spots) h k = inl (sym h.0 ∙ k.0)
one_size n m (Line at ∷ spots) h k = elim (one_size n m spots h.1 k.1) [
  | inl same ↦ inl same
  | inr lines ↦ inr (tt, lines)
]

-- arguments stand for one number of gates
pub one_count : (spots : List Spot) (n m : ℕ) → AreSpread spots n → AreSpread spots m → n ≡ m
one_count spots n m h k = elim (one_size n m spots h.shared k.shared) [
  | inl same ↦ same
  | inr lines ↦ h.alone lines ∙ sym (k.alone lines)
]

below_or_lines : (n m : ℕ) (spots : List Spot) → AllByRecursion (HasSize n) spots → AllByRecursion (SpotBelow m) spots
    → (n ≤ m) ⊎ AllByRecursion IsLine spots
below_or_lines n m [] h k = inr tt
below_or_lines n m (Whole first size ∷ spots) h k = inl (let same = h.0 in let low = k.0 in omega arith)
below_or_lines n m (Line at ∷ spots) h k = elim (below_or_lines n m spots h.1 k.1) [
  | inl low ↦ inl low
  | inr lines ↦ inr (tt, lines)
]

pub count_below : (spots : List Spot) (n m : ℕ) → AreSpread spots n → AllByRecursion (SpotBelow m) spots → 1 ≤ m → n ≤ m
count_below spots n m h k some = elim (below_or_lines n m spots h.shared k) [
  | inl low ↦ low
  | inr lines ↦ let one = h.alone lines in omega arith
]

-- ---- different lines

none_same : (i x : ℕ) (spots : List Spot) → list_any (λ spot. line_at i spot == x) spots ≡ false → AllByRecursion (λ y. x ≢ y) (map (line_at i) spots)
none_same i x [] e = tt
none_same i x (s ∷ ss) e = by (line_at i s == x) refl (λ f. none_same i x ss f)
  where
    by : (t : Bool) → (line_at i s == x) ≡ t → (list_any (λ spot. line_at i spot == x) ss ≡ false → AllByRecursion (λ y. x ≢ y) (map (line_at i) ss))
        → AllByRecursion (λ y. x ≢ y) (map (line_at i) (s ∷ ss))
    by true same more = absurd (false≢true (sym e ∙ ap (λ t. t || list_any (λ spot. line_at i spot == x) ss) same))
    by false other more =
        (λ same. eqb-false (line_at i s) x other (sym same), more (sym (ap (λ t. t || list_any (λ spot. line_at i spot == x) ss) other) ∙ e))

same_none : (i x : ℕ) (spots : List Spot) → AllByRecursion (λ y. x ≢ y) (map (line_at i) spots) → list_any (λ spot. line_at i spot == x) spots ≡ false
same_none i x [] h = refl
same_none i x (s ∷ ss) h = by (line_at i s == x) refl (same_none i x ss h.1)
  where
    by : (t : Bool) → (line_at i s == x) ≡ t → list_any (λ spot. line_at i spot == x) ss ≡ false → list_any (λ spot. line_at i spot == x) (s ∷ ss) ≡ false
    by true same more = absurd (h.0 (sym (eqb-true (line_at i s) x same)))
    by false other more = ap (λ t. t || list_any (λ spot. line_at i spot == x) ss) other ∙ more

pub different_so : (i : ℕ) (spots : List Spot) → are_different i spots ≡ true → AreDifferent (map (line_at i) spots)
different_so i [] e = tt
different_so i (s ∷ ss) e =
    let parts = and_parts (not (list_any (λ spot. line_at i spot == line_at i s) ss)) (are_different i ss) e in
    (none_same i (line_at i s) ss (not-true _ parts.0), different_so i ss parts.1)

different_is : (i : ℕ) (spots : List Spot) → AreDifferent (map (line_at i) spots) → are_different i spots ≡ true
different_is i [] h = refl
different_is i (s ∷ ss) h =
    and_from (not (list_any (λ spot. line_at i spot == line_at i s) ss)) (are_different i ss) (ap not (same_none i (line_at i s) ss h.0))
    (different_is i ss h.1)

pub all_more : (spots : List Spot) (n : ℕ) → AreAllDifferent spots n → are_different n spots ≡ true → AreAllDifferent spots (n + 1)
all_more spots n all e = record { says = λ i low. by i low (cases_lt i n) }
  where
    by : (i : ℕ) → i < n + 1 → (i < n) ⊎ (n ≤ i) → AreDifferent (map (line_at i) spots)
    by i low (inl less) = all.says i less
    by i low (inr more) = let same : n ≡ i = omega arith in subst (λ (k : ℕ). AreDifferent (map (line_at k) spots)) same (different_so n spots e)

pub meets : (i : ℕ) (spots : List Spot) → are_different i spots ≡ false → ¬ AreDifferent (map (line_at i) spots)
meets i spots e h = false≢true (sym e ∙ different_is i spots h)

-- ---- the gates

gate_lines : (controls : List Spot) (target : Spot) (i : ℕ) → lines_of (gate_at controls target i) ≡ map (line_at i) (controls ++ target ∷ [])
gate_lines controls target i = lines_of-flip_of (map (line_at i) controls) (line_at i target) ∙ sym (map-append (line_at i) controls (target ∷ []))

pub gate_is_different : (controls : List Spot) (target : Spot) (spots : List Spot) (i : ℕ) → spots ≡ controls ++ target ∷ []
    → AreDifferent (map (line_at i) spots) → HasDifferentLines (gate_at controls target i)
gate_is_different controls target spots i parts h =
    subst AreDifferent (ap (map (line_at i)) parts ∙ sym (gate_lines controls target i)) h

pub lines_are_different : (controls : List Spot) (target : Spot) (spots : List Spot) (i : ℕ) → spots ≡ controls ++ target ∷ []
    → HasDifferentLines (gate_at controls target i) → AreDifferent (map (line_at i) spots)
lines_are_different controls target spots i parts h =
    subst AreDifferent (gate_lines controls target i ∙ sym (ap (map (line_at i)) parts)) h

line_below : (lines count i : ℕ) (spot : Spot) → i < count → SpotBelow lines spot → HasSize count spot → line_at i spot < lines
line_below lines count i (Line at) low below size = below
line_below lines count i (Whole first own) low below size = omega arith

pub gate_on : (controls : List Spot) (target : Spot) (spots : List Spot) (lines count i : ℕ) → spots ≡ controls ++ target ∷ [] → i < count
    → AreSpread spots count → AllByRecursion (SpotBelow lines) spots → AreDifferent (map (line_at i) spots) → IsGateOn lines (gate_at controls target i)
gate_on controls target spots lines count i parts low spread below different = record {
  different = gate_is_different controls target spots i parts different;
  in_range = subst (AllByRecursion (λ line. line < lines)) (ap (map (line_at i)) parts ∙ sym (gate_lines controls target i))
      (AllByRecursion-map (λ line. line < lines) (line_at i) spots
      (AllByRecursion-both (SpotBelow lines) (HasSize count) (λ spot. line_at i spot < lines) (λ spot b s. line_below lines count i spot low b s)
      spots below spread.shared));
}

pub split_off : (spots : List Spot) → 1 ≤ length spots → (controls : List Spot) × (target : Spot) × (spots ≡ controls ++ target ∷ [])
split_off [] some = absurd (omega arith)
split_off (s ∷ []) some = ([], s, refl)
split_off (s ∷ t ∷ ss) some = let more = split_off (t ∷ ss) (omega arith) in (s ∷ more.0, more.1, ap (λ xs. s ∷ xs) more.2)

pub stand : (controls : List Spot) (target : Spot) (spots : List Spot) (count n : ℕ) → spots ≡ controls ++ target ∷ [] → length spots ≡ n + 1
    → AreSpread spots count → AreAllDifferent spots count → StandForGates n spots (map (gate_at controls target) (range_with_len 0 count))
stand controls target spots count n parts long spread different = record {
  controlling = controls;
  target = target;
  count = count;
  parts = parts;
  counted = (let all = ap length parts ∙ length_push controls target in omega arith);
  spread = spread;
  are = refl;
  different = AllByRecursion-range HasDifferentLines (gate_at controls target) 0 count
      (λ i from below. gate_is_different controls target spots i parts (different.says i (omega (arith, below))));
}

-- one more gate was pushed
pub pushed_more : (controls : List Spot) (target : Spot) (n : ℕ) (old now new : List GateView) (gate : GateView)
    → now ≡ old ++ map (gate_at controls target) (range_with_len 0 n) → gate ≡ gate_at controls target n → new ≡ now ++ gate ∷ []
    → new ≡ old ++ map (gate_at controls target) (range_with_len 0 (n + 1))
pushed_more controls target n old now new gate so_far same pushed =
    pushed ∙ ap (λ gs. gs ++ gate ∷ []) so_far ∙ append_assoc old (map (gate_at controls target) (range_with_len 0 n)) (gate ∷ [])
    ∙ ap (λ gs. old ++ gs) (ap (λ g. map (gate_at controls target) (range_with_len 0 n) ++ g ∷ []) same
    ∙ sym (map-range_with_len_more (gate_at controls target) 0 n n (omega arith)))

-- the gates that arguments stand for
module _ (spots : List Spot) (count : ℕ) (old : List GateView) (some : 1 ≤ length spots) (spread : AreSpread spots count)
    (different : AreAllDifferent spots count) where
  abbrev controls : List Spot
  controls = (split_off spots some).0

  abbrev target : Spot
  target = (split_off spots some).1

  abbrev standing : List GateView
  standing = map (gate_at controls target) (range_with_len 0 count)

  parts : spots ≡ controls ++ target ∷ []
  parts = (split_off spots some).2

  length-standing : length standing ≡ count
  length-standing = length-map-range_with_len (gate_at controls target) 0 count

  they_stand : (n : ℕ) → length spots ≡ n + 1 → StandForGates n spots standing
  they_stand n counted = stand controls target spots count n parts counted spread different

  -- within the limit, where memory is wanting
  pub wanted : length old + count ≤ 4000000 → StandForFew spots old
  wanted few = record { more = standing; stand = they_stand; few = let long = length-standing in omega arith }

  -- behind the others
  pub added : (new : List GateView) → length old + count ≤ 4000000 → ArePushed spots count old new → AddsGates spots old new
  added new few pushed = record {
    more = standing;
    stand = they_stand;
    few = let long = length-standing in omega arith;
    placed = λ lines below. AllByRecursion-range (IsGateOn lines) (gate_at controls target) 0 count
        (λ i from low. gate_on controls target spots lines count i parts (omega (arith, low)) spread below (different.says i (omega (arith, low))));
    added = pushed.says controls target parts;
  }

  -- past the limit
  pub passed : 4000000 < length old + count → PassGates spots old
  passed many = record {
    more = standing;
    stand = they_stand;
    many = let long = length-standing in omega arith;
    all = λ n gates h.
        let same = one_count spots count h.count spread h.spread in
        let other = ap length h.are ∙ length-map-range_with_len (gate_at h.controlling h.target) 0 h.count in
        omega (arith, same, other, many);
  }

pub none_stand : (spots : List Spot) → ((count : ℕ) → ¬ AreSpread spots count) → StandForNone spots
none_stand spots none = record { says = λ n gates h. none h.count h.spread }

-- one gate of those that arguments stand for
pub gate_there : (controls : List Spot) (target : Spot) (count i : ℕ) → i < count
    → AllByRecursion HasDifferentLines (map (gate_at controls target) (range_with_len 0 count)) → HasDifferentLines (gate_at controls target i)
gate_there controls target count i low all =
    let long = length-map-range_with_len (gate_at controls target) 0 count in
    subst HasDifferentLines (get_or-map-range_with_len (gate_at controls target) 0 count i i (gate_at controls target 0) low (omega arith))
    (AllByRecursion-at HasDifferentLines (map (gate_at controls target) (range_with_len 0 count)) i (gate_at controls target 0) all (omega arith))

pub meeting_stand : (spots : List Spot) (count : ℕ) → AreSpread spots count → MeetSomewhere spots count → StandForNone spots
meeting_stand spots count spread meeting = record {
  says = λ n gates h.
      let same = one_count spots count h.count spread h.spread in
      let low = meeting.below in
      meeting.meet (lines_are_different h.controlling h.target spots meeting.i h.parts
      (gate_there h.controlling h.target h.count meeting.i (omega (arith, same, low)) (subst (AllByRecursion HasDifferentLines) h.are h.different)));
}
