-- Two cubes gone through side by side: their distance, and the cube with the third states.
use Rattle.std.proofs.Common.{◌≡◌, ◌≢◌, ◌⊎◌, ℕ, ◌+◌, ◌<◌, ◌≤◌, Bool, true, false, not, ◌&&◌, cond, eqb, List, [], ◌∷◌, ◌++◌, length, map, drop, get_or, Option, Some, None}
use Rattle.std.proofs.Common.{refl, sym, ap, ◌∙◌, subst, inl, inr, arith}
use Rattle.std.specs.Bool.{xor}
use Rattle.std.specs.List.{AllByRecursion, count_by}
use Rattle.std.specs.Option.{is_none}
use Rattle.std.specs.declared.cmp.Ordering.TheVariants.{Less}
use Rattle.std.proofs.lemmas.Bool.{cases_Bool, cases_lt, eqb-true, eqb-false, eq-eqb, ne_eqb}
use Rattle.std.proofs.lemmas.Cmp.{nat_cmp_total, on_total}
use Rattle.std.proofs.lemmas.List.{append-nil}
use Rattle.std.proofs.lemmas.List.Sums.{sum_by-cons}
use Rattle.std.proofs.Math.ListN.{drop_of_length-le}
use Rattle.std.proofs.lemmas.Option.{same_Some}
use Rattle.exclusive_sums.specs.declared.cube.Literal.{Literal}
use Rattle.revs_tape.specs.inside.Aligned.{Pair, left, right, both, aligned, key_of}
use Rattle.list_facts.specs.Lists.{IsRising}
use Rattle.revs_tape.specs.Polynomials.{IsInOrder}
use Rattle.exclusive_sums.specs.Cubes.{value_of_literal, value_of_cube, input_of, IsCube, state_of, same_sign, same_state, distance_of, third_state, IsJoined}
use Rattle.exclusive_sums.specs.Cubes.{positive}
use Rattle.exclusive_sums.specs.inside.Merging.{by_input, differences, flipped, thirds}
use Rattle.revs_tape.proofs.AlignmentLemmas.{lefts, rights, lefts-aligned, rights-aligned, IsTied, tied-aligned, by_key, in_order-aligned}
use Rattle.list_facts.proofs.BitLemmas.{xor-and_right}
use Rattle.revs_tape.proofs.SumLemmas.{eq_from_equal, less_from_lt, lt_from_less}
use Rattle.list_facts.proofs.AllLemmas.{AllByRecursion-weaker}

-- ---- what going through two cubes gives

-- pairs by rising inputs, in which two literals have one input
abbrev AreAbove : ℕ → List (Pair Literal) → Type 0
AreAbove i ps = AllByRecursion (λ (p : Pair Literal). i < (key_of p).input) ps

abbrev AreRising : List (Pair Literal) → Type 0
AreRising [] = Unit {0}
AreRising (p ∷ ps) = AreAbove (key_of p).input ps × AreRising ps

abbrev HaveOneInput : Pair Literal → Type 0
HaveOneInput (left l) = Unit {0}
HaveOneInput (right m) = Unit {0}
HaveOneInput (both l m) = l.input ≡ m.input

pub record AreSteps (ps : List (Pair Literal)) : Type 0 where
  rising : AreRising ps
  tied : AllByRecursion HaveOneInput ps

rising_pairs : (ps : List (Pair Literal)) → IsInOrder (by_key by_input) ps → AreRising ps
rising_pairs [] h = tt
rising_pairs (p ∷ ps) h = (
  AllByRecursion-weaker (λ (q : Pair Literal). by_input (key_of p) (key_of q) ≡ Less) (λ (q : Pair Literal). (key_of p).input < (key_of q).input)
      (λ q l. lt_from_less (key_of p).input (key_of q).input l) ps h.0,
  rising_pairs ps h.1,
)

one_input : (p : Pair Literal) → IsTied by_input p → HaveOneInput p
one_input (left l) h = tt
one_input (right m) h = tt
one_input (both l m) h = eq_from_equal l.input m.input h

below : (l : Literal) (ls : List Literal) → AllByRecursion (λ j. l.input < j) (map input_of ls) → AllByRecursion (λ m. by_input l m ≡ Less) ls
below l [] h = tt
below l (m ∷ ms) h = (less_from_lt l.input m.input h.0, below l ms h.1)

in_order_cube : (c : List Literal) → IsCube c → IsInOrder by_input c
in_order_cube [] h = tt
in_order_cube (l ∷ ls) h = (below l ls h.0, in_order_cube ls h.1)

pub steps_of : (c d : List Literal) → IsCube c → IsCube d → AreSteps (aligned by_input c d)
steps_of c d a b = record {
  rising = rising_pairs (aligned by_input c d)
      (in_order-aligned by_input (on_total (λ (l : Literal). l.input) nat_cmp_total) c d (in_order_cube c a) (in_order_cube d b));
  tied = AllByRecursion-weaker (IsTied by_input) HaveOneInput one_input (aligned by_input c d) (tied-aligned by_input c d);
}

-- ---- states above an input

absent : (i : ℕ) (c : List Literal) → AllByRecursion (λ (l : Literal). i < l.input) c → state_of c i ≡ None
absent i [] h = refl
absent i (l ∷ ls) h = rw (ne_eqb l.input i (λ e. absurd (omega (arith, h.0)))) (absent i ls h.1)

above_lefts : (i : ℕ) (ps : List (Pair Literal)) → AreAbove i ps → AllByRecursion (λ (l : Literal). i < l.input) (lefts ps)
above_lefts i [] h = tt
above_lefts i (left l ∷ ps) h = (h.0, above_lefts i ps h.1)
above_lefts i (right m ∷ ps) h = above_lefts i ps h.1
above_lefts i (both l m ∷ ps) h = (h.0, above_lefts i ps h.1)

above_rights : (i : ℕ) (ps : List (Pair Literal)) → AllByRecursion HaveOneInput ps → AreAbove i ps → AllByRecursion (λ (l : Literal). i < l.input) (rights ps)
above_rights i [] t h = tt
above_rights i (left l ∷ ps) t h = above_rights i ps t.1 h.1
above_rights i (right m ∷ ps) t h = (h.0, above_rights i ps t.1 h.1)
above_rights i (both l m ∷ ps) t h = let same = t.0 in let low = h.0 in (omega arith, above_rights i ps t.1 h.1)

above_thirds : (i : ℕ) (ps : List (Pair Literal)) → AreAbove i ps → AllByRecursion (λ (l : Literal). i < l.input) (thirds ps)
above_thirds i [] h = tt
above_thirds i (left l ∷ ps) h = (h.0, above_thirds i ps h.1)
above_thirds i (right m ∷ ps) h = (h.0, above_thirds i ps h.1)
above_thirds i (both l m ∷ ps) h =
    elim (cases_Bool (same_sign l.positive m.positive)) [ inl e ↦ rw e (h.0, above_thirds i ps h.1) | inr e ↦ rw e (above_thirds i ps h.1) ]

-- ---- the distance

count-cons : (p : Literal → Bool) (l : Literal) (ls : List Literal) → count_by p (l ∷ ls) ≡ cond (p l) 1 0 + count_by p ls
count-cons p l ls = sum_by-cons (λ x. cond (p x) 1 0) l ls

count_same : (p q : Literal → Bool) (ls : List Literal) → AllByRecursion (λ l. p l ≡ q l) ls → count_by p ls ≡ count_by q ls
count_same p q [] h = refl
count_same p q (l ∷ ls) h = count-cons p l ls ∙ rw (h.0, count_same p q ls h.1) (sym (count-cons q l ls))

-- how the literals of one cube are counted against another cube
abbrev other : List Literal → Literal → Bool
other d l = not (same_state (Some l.positive) (state_of d l.input))

abbrev only : List Literal → Literal → Bool
only c m = is_none (state_of c m.input)

skip : (l : Literal) (c : List Literal) (i : ℕ) → l.input < i → state_of (l ∷ c) i ≡ state_of c i
skip l c i h = rw (ne_eqb l.input i (λ e. absurd (omega arith))) refl

other_above : (m : Literal) (d c : List Literal) → AllByRecursion (λ (l : Literal). m.input < l.input) c → count_by (other (m ∷ d)) c ≡ count_by (other d) c
other_above m d c h = count_same (other (m ∷ d)) (other d) c
    (AllByRecursion-weaker (λ (l : Literal). m.input < l.input) (λ l. other (m ∷ d) l ≡ other d l) (λ l k. rw (skip m d l.input k) refl) c h)

only_above : (l : Literal) (c d : List Literal) → AllByRecursion (λ (m : Literal). l.input < m.input) d → count_by (only (l ∷ c)) d ≡ count_by (only c) d
only_above l c d h = count_same (only (l ∷ c)) (only c) d
    (AllByRecursion-weaker (λ (m : Literal). l.input < m.input) (λ m. only (l ∷ c) m ≡ only c m) (λ m k. rw (skip l c m.input k) refl) d h)

count_both : (a b : Bool) → ◌≡◌ {A = ℕ} (cond (not (same_sign a b)) 1 0) (cond (same_sign a b) 0 1)
count_both true true = refl
count_both true false = refl
count_both false true = refl
count_both false false = refl

differences_is : (ps : List (Pair Literal)) → AreSteps ps → differences ps ≡ distance_of (lefts ps) (rights ps)
differences_is [] s = refl
differences_is (left l ∷ ps) s =
    let rest = differences_is ps (record { rising = s.rising.1; tied = s.tied.1 }) in
    let right_above = above_rights l.input ps s.tied.1 s.rising.0 in
    rw (count-cons (other (rights ps)) l (lefts ps), absent l.input (rights ps) right_above, only_above l (lefts ps) (rights ps) right_above)
    (omega (arith, rest))
differences_is (right m ∷ ps) s =
    let rest = differences_is ps (record { rising = s.rising.1; tied = s.tied.1 }) in
    let left_above = above_lefts m.input ps s.rising.0 in
    rw (count-cons (only (lefts ps)) m (rights ps), absent m.input (lefts ps) left_above, other_above m (rights ps) (lefts ps) left_above) (omega (arith, rest))
differences_is (both l m ∷ ps) s =
    let rest = differences_is ps (record { rising = s.rising.1; tied = s.tied.1 }) in
    let same : l.input ≡ m.input = s.tied.0 in
    let right_above = above_rights l.input ps s.tied.1 s.rising.0 in
    let left_above : AllByRecursion (λ (k : Literal). m.input < k.input) (lefts ps) = subst
    (λ n. AllByRecursion (λ (k : Literal). n < k.input) (lefts ps)) same (above_lefts l.input ps s.rising.0) in
    rw (
      count-cons (other (m ∷ rights ps)) l (lefts ps),
      count-cons (only (l ∷ lefts ps)) m (rights ps),
      other_above m (rights ps) (lefts ps) left_above,
      only_above l (lefts ps) (rights ps) right_above,
      eq-eqb l.input m.input same,
      eq-eqb m.input l.input (sym same),
      count_both l.positive m.positive,
    ) (omega (arith, rest))

pub differences-aligned : (c d : List Literal) → IsCube c → IsCube d → differences (aligned by_input c d) ≡ distance_of c d
differences-aligned c d a b =
    differences_is (aligned by_input c d) (steps_of c d a b) ∙ rw (lefts-aligned by_input c d, rights-aligned by_input c d) refl

-- a cube has no more literals than the other one has, and inputs differ
lefts_within : (ps : List (Pair Literal)) → length (lefts ps) ≤ length (rights ps) + differences ps
lefts_within [] = omega arith
lefts_within (left l ∷ ps) = omega (arith, lefts_within ps)
lefts_within (right m ∷ ps) = omega (arith, lefts_within ps)
lefts_within (both l m ∷ ps) = omega (arith, lefts_within ps)

rights_within : (ps : List (Pair Literal)) → length (rights ps) ≤ length (lefts ps) + differences ps
rights_within [] = omega arith
rights_within (left l ∷ ps) = omega (arith, rights_within ps)
rights_within (right m ∷ ps) = omega (arith, rights_within ps)
rights_within (both l m ∷ ps) = omega (arith, rights_within ps)

-- two cubes of as many literals that begin with different inputs
begun_apart : (ps : List (Pair Literal)) (k : Literal) → AllByRecursion HaveOneInput ps → length (lefts ps) ≡ length (rights ps) → 0 < length (lefts ps)
    → (get_or (lefts ps) 0 k).input ≢ (get_or (rights ps) 0 k).input → 1 < differences ps
begun_apart [] k t same some other = absurd (omega (arith, some))
begun_apart (left l ∷ ps) k t same some other = omega (arith, same, rights_within ps)
begun_apart (right m ∷ ps) k t same some other = omega (arith, same, lefts_within ps)
begun_apart (both l m ∷ ps) k t same some other = absurd (other t.0)

pub begin_apart : (c d : List Literal) (k : Literal) → IsCube c → IsCube d → length c ≡ length d → 0 < length c
    → (get_or c 0 k).input ≢ (get_or d 0 k).input → 1 < distance_of c d
begin_apart c d k a b same some other =
    let ps = aligned by_input c d in
    let l : lefts ps ≡ c = lefts-aligned by_input c d in
    let r : rights ps ≡ d = rights-aligned by_input c d in
    let apart : 1 < differences ps =
    begun_apart ps k (steps_of c d a b).tied (ap length l ∙ same ∙ sym (ap length r)) (subst (λ (e : List Literal). 0 < length e) (sym l) some)
    (λ one. other (sym (ap (λ (e : List Literal). (get_or e 0 k).input) l) ∙ one ∙ ap (λ (e : List Literal). (get_or e 0 k).input) r)) in
    omega (arith, apart, differences-aligned c d a b)

-- ---- the joined cube

abbrev chosen_state : Option Bool → Option Bool → Option Bool
chosen_state a b = cond (same_state a b) a (third_state a b)

pub states-thirds : (ps : List (Pair Literal)) → AreSteps ps → (i : ℕ) → state_of (thirds ps) i ≡ chosen_state (state_of (lefts ps) i) (state_of (rights ps) i)
states-thirds [] s i = refl
states-thirds (left l ∷ ps) s i =
    elim (cases_Bool (eqb l.input i)) [
      | inl e ↦
          let same : l.input ≡ i = eqb-true l.input i e in
          let none : state_of (rights ps) i ≡ None = subst (λ n. state_of (rights ps) n ≡ None) same
          (absent l.input (rights ps) (above_rights l.input ps s.tied.1 s.rising.0)) in
          rw (e, none) refl
      | inr n ↦ rw n (states-thirds ps (record { rising = s.rising.1; tied = s.tied.1 }) i)
    ]
states-thirds (right m ∷ ps) s i =
    elim (cases_Bool (eqb m.input i)) [
      | inl e ↦
          let same : m.input ≡ i = eqb-true m.input i e in
          let none : state_of (lefts ps) i ≡ None = subst (λ n. state_of (lefts ps) n ≡ None) same
          (absent m.input (lefts ps) (above_lefts m.input ps s.rising.0)) in
          rw (e, none) refl
      | inr n ↦ rw n (states-thirds ps (record { rising = s.rising.1; tied = s.tied.1 }) i)
    ]
states-thirds (both l m ∷ ps) s i =
    let one : l.input ≡ m.input = s.tied.0 in
    elim (cases_Bool (eqb l.input i)) [
      | inl e ↦
          let same : l.input ≡ i = eqb-true l.input i e in
          let none : state_of (thirds ps) i ≡ None = subst (λ n. state_of (thirds ps) n ≡ None) same
          (absent l.input (thirds ps) (above_thirds l.input ps s.rising.0)) in
          elim (cases_Bool (same_sign l.positive m.positive)) [
            | inl y ↦ rw (y, e, eq-eqb m.input i (sym one ∙ same), y) refl
            | inr y ↦ rw (y, e, eq-eqb m.input i (sym one ∙ same), y) none
          ]
      | inr n ↦
          let rest = states-thirds ps (record { rising = s.rising.1; tied = s.tied.1 }) i in
          let apart : eqb m.input i ≡ false = ne_eqb m.input i (λ e. eqb-false l.input i n (one ∙ e)) in
          elim (cases_Bool (same_sign l.positive m.positive)) [ inl y ↦ rw (y, n, apart) rest | inr y ↦ rw (y, n, apart) rest ]
    ]

inputs_above : (i : ℕ) (c : List Literal) → AllByRecursion (λ (k : Literal). i < k.input) c → AllByRecursion (λ j. i < j) (map input_of c)
inputs_above i [] h = tt
inputs_above i (l ∷ ls) h = (h.0, inputs_above i ls h.1)

rising_cons : (l : Literal) (c : List Literal) → AllByRecursion (λ (k : Literal). l.input < k.input) c → IsCube c → IsCube (l ∷ c)
rising_cons l c h k = (inputs_above l.input c h, k)

is_cube-thirds : (ps : List (Pair Literal)) → AreRising ps → IsCube (thirds ps)
is_cube-thirds [] h = tt
is_cube-thirds (left l ∷ ps) h = rising_cons (flipped l) (thirds ps) (above_thirds l.input ps h.0) (is_cube-thirds ps h.1)
is_cube-thirds (right m ∷ ps) h = rising_cons (flipped m) (thirds ps) (above_thirds m.input ps h.0) (is_cube-thirds ps h.1)
is_cube-thirds (both l m ∷ ps) h =
    elim (cases_Bool (same_sign l.positive m.positive)) [
      | inl e ↦ rw e (rising_cons l (thirds ps) (above_thirds l.input ps h.0) (is_cube-thirds ps h.1))
      | inr e ↦ rw e (is_cube-thirds ps h.1)
    ]

pub IsJoined-thirds : (c d : List Literal) → IsCube c → IsCube d → IsJoined c d (thirds (aligned by_input c d))
IsJoined-thirds c d a b = record {
  is_cube = is_cube-thirds (aligned by_input c d) (steps_of c d a b).rising;
  states = λ i. states-thirds (aligned by_input c d) (steps_of c d a b) i ∙ rw (lefts-aligned by_input c d, rights-aligned by_input c d) refl;
}

-- ---- what is left at the end of one cube

thirds-rights_only : (d : List Literal) → thirds (map right d) ≡ map flipped d
thirds-rights_only [] = refl
thirds-rights_only (m ∷ ms) = ap (λ ls. flipped m ∷ ls) (thirds-rights_only ms)

thirds-lefts_only : (c : List Literal) → thirds (aligned by_input c []) ≡ map flipped c
thirds-lefts_only [] = refl
thirds-lefts_only (l ∷ ls) = ap (λ ms. flipped l ∷ ms) (thirds-lefts_only ls)

pub thirds_left_over : (c d : List Literal) (i j : ℕ) → (length c ≤ i) ⊎ (length d ≤ j)
    → thirds (aligned by_input (drop i c) (drop j d)) ≡ map flipped (drop i c) ++ map flipped (drop j d)
thirds_left_over c d i j (inl h) = rw (drop_of_length-le c h) (thirds-rights_only (drop j d))
thirds_left_over c d i j (inr h) = rw (drop_of_length-le d h) (thirds-lefts_only (drop i c) ∙ sym (append-nil (map flipped (drop i c))))

differences-rights_only : (d : List Literal) → differences (map right d) ≡ length d
differences-rights_only [] = refl
differences-rights_only (m ∷ ms) = omega (arith, differences-rights_only ms)

differences-lefts_only : (c : List Literal) → differences (aligned by_input c []) ≡ length c
differences-lefts_only [] = refl
differences-lefts_only (l ∷ ls) = omega (arith, differences-lefts_only ls)

pub differences_left_over : (c d : List Literal) (i j : ℕ) → (length c ≤ i) ⊎ (length d ≤ j)
    → differences (aligned by_input (drop i c) (drop j d)) ≡ length (drop i c) + length (drop j d)
differences_left_over c d i j (inl h) = rw (drop_of_length-le c h) (omega (arith, differences-rights_only (drop j d)))
differences_left_over c d i j (inr h) = rw (drop_of_length-le d h) (omega (arith, differences-lefts_only (drop i c)))

-- ---- values

literal_same : (l m : Literal) → l.input ≡ m.input → l.positive ≡ m.positive → l ≡ m
literal_same l m e f = ap (λ (n : ℕ). (let k : Literal = record { input = n; positive = l.positive } in k)) e
    ∙ ap (λ (b : Bool). (let k : Literal = record { input = m.input; positive = b } in k)) f

same_sign_same : (a b : Bool) → same_sign a b ≡ true → a ≡ b
same_sign_same true true h = refl
same_sign_same true false h = sym h
same_sign_same false true h = h
same_sign_same false false h = refl

no_difference : (ps : List (Pair Literal)) → AllByRecursion HaveOneInput ps → differences ps ≡ 0 → (lefts ps ≡ rights ps) × (thirds ps ≡ rights ps)
no_difference [] t h = (refl, refl)
no_difference (left l ∷ ps) t h = absurd (omega arith)
no_difference (right m ∷ ps) t h = absurd (omega arith)
no_difference (both l m ∷ ps) t h =
    elim (cases_Bool (same_sign l.positive m.positive)) [
      | inl e ↦
          let more = rw e at h in
          let rest = no_difference ps t.1 (omega arith) in
          let same : l ≡ m = literal_same l m t.0 (same_sign_same l.positive m.positive e) in
          (rw (same, rest.0) refl, rw (e, same, rest.1) refl)
      | inr e ↦ let more = rw e at h in absurd (omega arith)
    ]

pub same_if_no_distance : (c d : List Literal) → IsCube c → IsCube d → distance_of c d ≡ 0 → c ≡ d
same_if_no_distance c d a b h =
    let s = steps_of c d a b in
    let none = (no_difference (aligned by_input c d) s.tied (differences-aligned c d a b ∙ h)).0 in
    sym (lefts-aligned by_input c d) ∙ none ∙ rights-aligned by_input c d

flipped_sign : (v p : Bool) → cond (not p) v (not v) ≡ not (cond p v (not v))
flipped_sign true true = refl
flipped_sign true false = refl
flipped_sign false true = refl
flipped_sign false false = refl

value_of_flipped : (x : ℕ → Bool) (l : Literal) → value_of_literal x (flipped l) ≡ not (value_of_literal x l)
value_of_flipped x l = flipped_sign (x l.input) l.positive

flip_one : (v w : Bool) → xor (v && w) w ≡ (not v && w)
unfolding mathlib.Core.Bool.xor
flip_one true true = refl
flip_one true false = refl
flip_one false true = refl
flip_one false false = refl

flip_other : (v w : Bool) → xor w (v && w) ≡ (not v && w)
unfolding mathlib.Core.Bool.xor
flip_other true true = refl
flip_other true false = refl
flip_other false true = refl
flip_other false false = refl

opposite : (v w : Bool) → xor (v && w) (not v && w) ≡ w
unfolding mathlib.Core.Bool.xor
opposite true true = refl
opposite true false = refl
opposite false true = refl
opposite false false = refl

opposite_sign : (a b : Bool) → same_sign a b ≡ false → b ≡ not a
opposite_sign true true h = h
opposite_sign true false h = refl
opposite_sign false true h = refl
opposite_sign false false h = sym h

-- at distance 1 the exclusive or of two cubes is the cube with the third state
value-thirds : (x : ℕ → Bool) (ps : List (Pair Literal)) → AllByRecursion HaveOneInput ps → differences ps ≡ 1
    → xor (value_of_cube x (lefts ps)) (value_of_cube x (rights ps)) ≡ value_of_cube x (thirds ps)
value-thirds x [] t h = absurd (omega arith)
value-thirds x (left l ∷ ps) t h =
    let rest = no_difference ps t.1 (omega arith) in
    rw (rest.0, rest.1, value_of_flipped x l) (flip_one (value_of_literal x l) (value_of_cube x (rights ps)))
value-thirds x (right m ∷ ps) t h =
    let rest = no_difference ps t.1 (omega arith) in
    rw (rest.0, rest.1, value_of_flipped x m) (flip_other (value_of_literal x m) (value_of_cube x (rights ps)))
value-thirds x (both l m ∷ ps) t h =
    elim (cases_Bool (same_sign l.positive m.positive)) [
      | inl e ↦
          let more = rw e at h in
          let same : l ≡ m = literal_same l m t.0 (same_sign_same l.positive m.positive e) in
          rw e (rw same (xor-and_right (value_of_cube x (lefts ps)) (value_of_cube x (rights ps)) (value_of_literal x m)
          ∙ ap (λ b. value_of_literal x m && b) (value-thirds x ps t.1 (omega arith))))
      | inr e ↦
          let more = rw e at h in
          let rest = no_difference ps t.1 (omega arith) in
          let turned : m ≡ flipped l = literal_same m (flipped l) (sym t.0) (opposite_sign l.positive m.positive e) in
          rw (e, rest.1, rest.0) (rw (turned, value_of_flipped x l) (opposite (value_of_literal x l) (value_of_cube x (rights ps))))
    ]

-- a cube is what its states are
literals_above : (i : ℕ) (c : List Literal) → AllByRecursion (λ j. i < j) (map input_of c) → AllByRecursion (λ (l : Literal). i < l.input) c
literals_above i [] h = tt
literals_above i (l ∷ ls) h = (h.0, literals_above i ls h.1)

state_of_first : (l : Literal) (c : List Literal) → state_of (l ∷ c) l.input ≡ Some l.positive
state_of_first l c = rw (eq-eqb l.input l.input refl) refl

first_no_later : (l m : Literal) (c d : List Literal) → IsCube (m ∷ d) → ((i : ℕ) → state_of (l ∷ c) i ≡ state_of (m ∷ d) i) → m.input ≤ l.input
first_no_later l m c d b h =
    elim (cases_lt l.input m.input) [
      | inl k ↦
          let up : AllByRecursion (λ (n : Literal). l.input < n.input)
          (m ∷ d) = (
            k,
            AllByRecursion-weaker (λ (n : Literal). m.input < n.input) (λ (n : Literal). l.input < n.input) (λ n j. omega arith) d
                (literals_above m.input d b.0),
          ) in
          let clash : Some l.positive ≡ None = sym (state_of_first l c) ∙ h l.input ∙ absent l.input (m ∷ d) up in cc
      | inr g ↦ g
    ]

tail_states : (l m : Literal) (c d : List Literal) → IsCube (l ∷ c) → IsCube (m ∷ d) → l.input ≡ m.input → ((i : ℕ) → state_of (l ∷ c) i ≡ state_of (m ∷ d) i)
    → (i : ℕ) → state_of c i ≡ state_of d i
tail_states l m c d a b e h i =
    elim (cases_Bool (eqb l.input i)) [
      | inl k ↦
          let here : l.input ≡ i = eqb-true l.input i k in
          let there : m.input ≡ i = sym e ∙ here in
          subst (λ n. state_of c n ≡ None) here (absent l.input c (literals_above l.input c a.0))
          ∙ sym (subst (λ n. state_of d n ≡ None) there (absent m.input d (literals_above m.input d b.0)))
      | inr k ↦
          let apart : eqb m.input i ≡ false = ne_eqb m.input i (λ j. eqb-false l.input i k (e ∙ j)) in
          let whole = h i in rw (k, apart) at whole
    ]

pub same_states_same : (c d : List Literal) → IsCube c → IsCube d → ((i : ℕ) → state_of c i ≡ state_of d i) → c ≡ d
same_states_same [] [] a b h = refl
same_states_same [] (m ∷ d) a b h = let clash : None ≡ Some m.positive = h m.input ∙ state_of_first m d in cc
same_states_same (l ∷ c) [] a b h = let clash : Some l.positive ≡ None = sym (state_of_first l c) ∙ h l.input in cc
same_states_same (l ∷ c) (m ∷ d) a b h =
    let down = first_no_later l m c d b h in
    let up = first_no_later m l d c a (λ i. sym (h i)) in
    let one : l.input ≡ m.input = omega arith in
    let signs : Some l.positive ≡ Some m.positive = sym (state_of_first l c) ∙ h l.input
    ∙ subst (λ n. state_of (m ∷ d) n ≡ Some m.positive) (sym one) (state_of_first m d) in
    let first : l ≡ m = literal_same l m one (same_Some l.positive m.positive signs) in
    let rest : c ≡ d = same_states_same c d a.1 b.1 (tail_states l m c d a b one h) in
    rw (first, rest) refl

pub value-joined : (x : ℕ → Bool) (c d joined : List Literal) → IsCube c → IsCube d → distance_of c d ≡ 1 → IsJoined c d joined
    → value_of_cube x joined ≡ xor (value_of_cube x c) (value_of_cube x d)
value-joined x c d joined a b h j =
    let s = steps_of c d a b in
    let thirds_are = IsJoined-thirds c d a b in
    let same : joined ≡ thirds (aligned by_input c d) = same_states_same joined (thirds (aligned by_input c d)) j.is_cube thirds_are.is_cube
    (λ i. j.states i ∙ sym (thirds_are.states i)) in
    ap (value_of_cube x) same ∙ sym (value-thirds x (aligned by_input c d) s.tied (differences-aligned c d a b ∙ h))
    ∙ rw (lefts-aligned by_input c d, rights-aligned by_input c d) refl

-- ---- inputs

All-thirds : (P : ℕ → Type 0) (ps : List (Pair Literal)) → AllByRecursion (λ (l : Literal). P l.input) (lefts ps)
    → AllByRecursion (λ (l : Literal). P l.input) (rights ps) → AllByRecursion (λ (l : Literal). P l.input) (thirds ps)
All-thirds P [] a b = tt
All-thirds P (left l ∷ ps) a b = (a.0, All-thirds P ps a.1 b)
All-thirds P (right m ∷ ps) a b = (b.0, All-thirds P ps a b.1)
All-thirds P (both l m ∷ ps) a b =
    elim (cases_Bool (same_sign l.positive m.positive)) [ inl e ↦ rw e (a.0, All-thirds P ps a.1 b.1) | inr e ↦ rw e (All-thirds P ps a.1 b.1) ]

pub inputs-joined : (P : ℕ → Type 0) (c d joined : List Literal) → IsCube c → IsCube d → IsJoined c d joined → AllByRecursion (λ (l : Literal). P l.input) c
    → AllByRecursion (λ (l : Literal). P l.input) d
    → AllByRecursion (λ (l : Literal). P l.input) joined
inputs-joined P c d joined a b j p q =
    let thirds_are = IsJoined-thirds c d a b in
    let same : joined ≡ thirds (aligned by_input c d) = same_states_same joined (thirds (aligned by_input c d)) j.is_cube thirds_are.is_cube
    (λ i. j.states i ∙ sym (thirds_are.states i)) in
    subst (AllByRecursion (λ (l : Literal). P l.input)) (sym same) (All-thirds P (aligned by_input c d)
    (subst (AllByRecursion (λ (l : Literal). P l.input)) (sym (lefts-aligned by_input c d)) p)
    (subst (AllByRecursion (λ (l : Literal). P l.input)) (sym (rights-aligned by_input c d)) q))

-- ---- positive cubes

inputs-positive : (m : List ℕ) → map input_of (map positive m) ≡ m
inputs-positive [] = refl
inputs-positive (i ∷ is) = ap (λ js. i ∷ js) (inputs-positive is)

pub IsCube-positive : (m : List ℕ) → IsRising m → IsCube (map positive m)
IsCube-positive m h = subst IsRising (sym (inputs-positive m)) h
