-- What the lines that are out become when a free line is handed out or a line comes back.
use Rattle.std.proofs.Common.{◌≡◌, ◌≢◌, ℕ, zero, suc, ◌+◌, ◌<◌, ◌≤◌, max, true, false, not, ◌&&◌, cond, eqb, ltb, List, [], ◌∷◌, length, Result, Ok, Err}
use Rattle.std.proofs.Common.{IsOk, OnOk, refl, sym, ap, ◌∙◌, inl, inr, arith}
use Rattle.std.specs.List.{range_with_len}
use Rattle.std.specs.List.Sorted.{IsPermutation}
use Rattle.std.specs.Ordering.{nat_cmp}
use Rattle.std.specs.BinaryHeap.{IsUpperBound}
use Rattle.std.specs.declared.cmp.Reverse.{Reverse}
use Rattle.std.proofs.lemmas.Bool.{cases_Bool, cases_lt, eqb-true, eqb-false, eq-eqb, ne_eqb, lt-ltb, le-ltb, ltb-true, and_parts, and_right, true≢false}
use Rattle.std.proofs.lemmas.Bool.Decides.{nat_tests}
use Rattle.std.proofs.lemmas.List.Sums.{sum_by-cons}
use Rattle.std.proofs.lemmas.List.Sorted.{sum_by-IsPermutation}
use Rattle.held_nodes.specs.inside.Lines.{HeapView, contains, IsLineHeap, IsLeastFree, with_line, without_line, with_taken}
use Rattle.held_nodes.specs.inside.Heaps.{count_of, is_out, out_of, AreLines}
use Rattle.std.proofs.lemmas.List.FromFn.{length-range_with_len}
use Rattle.std.proofs.Math.Bool.{and-true}
use Rattle.list_facts.proofs.AllLemmas.{AllByRecursion-weaker}
use Rattle.list_facts.proofs.OrderLemmas.{IsRising-filter, IsRising-range, range_below}
use Rattle.held_nodes.proofs.OutLineLemmas.{passed_each, filter_none, contains-range, contains-filter_failed, contains-filter_passed, length-filter_all}
use Rattle.held_nodes.proofs.OutLineLemmas.{length-filter-lt, filter_with, filter_without}

-- ---- how often a line is free

count-cons : (x : Reverse ℕ) (xs : List (Reverse ℕ)) (line : ℕ) → count_of (x ∷ xs) line ≡ cond (eqb x.0 line) 1 0 + count_of xs line
count-cons x xs line = sum_by-cons (λ (r : Reverse ℕ). cond (eqb r.0 line) 1 0) x xs

count_permuted : (xs ys : List (Reverse ℕ)) (line : ℕ) → IsPermutation xs ys → count_of ys line ≡ count_of xs line
count_permuted xs ys line p = sum_by-IsPermutation (λ (r : Reverse ℕ). cond (eqb r.0 line) 1 0) xs ys p

count_itself : (x : Reverse ℕ) (xs : List (Reverse ℕ)) → count_of (x ∷ xs) x.0 ≡ 1 + count_of xs x.0
count_itself x xs = count-cons x xs x.0 ∙ rw (eq-eqb x.0 x.0 refl) refl

count_other : (x : Reverse ℕ) (xs : List (Reverse ℕ)) (line : ℕ) → x.0 ≢ line → count_of (x ∷ xs) line ≡ count_of xs line
count_other x xs line ne = count-cons x xs line ∙ rw (ne_eqb x.0 line ne) (omega arith)

-- nothing less than the top is free
none_below : (x : Reverse ℕ) (xs : List (Reverse ℕ)) (line : ℕ) → line < x.0 → IsUpperBound (λ (a b : Reverse ℕ). nat_cmp b.0 a.0) x xs → count_of xs line ≡ 0
none_below x [] line l h = refl
none_below x (y ∷ ys) line l h =
    let up : x.0 ≤ y.0 = grind (arith, nat_tests, h.0) in
    count_other y ys line (λ e. absurd (omega arith)) ∙ none_below x ys line l h.1

-- ---- there is room for one line more

-- how often the lines below n stand in a list
total_below : ℕ → List (Reverse ℕ) → ℕ
total_below zero xs = 0
total_below (suc n) xs = count_of xs n + total_below n xs

total_below-cons : (n : ℕ) (x : Reverse ℕ) (xs : List (Reverse ℕ)) → total_below n (x ∷ xs) ≡ cond (ltb x.0 n) 1 0 + total_below n xs
unfolding total_below
total_below-cons zero x xs = rw (le-ltb x.0 0 (omega arith)) refl
total_below-cons (suc n) x xs =
    let below = total_below-cons n x xs in
    let here = count-cons x xs n in
    rw (here, below) (grind (arith, nat_tests))

total_below-nil : (n : ℕ) → total_below n [] ≡ 0
unfolding total_below
total_below-nil zero = refl
total_below-nil (suc n) = rw (total_below-nil n) refl

length_by_lines : (n : ℕ) (xs : List (Reverse ℕ)) → ((line : ℕ) → n ≤ line → count_of xs line ≡ 0) → total_below n xs ≡ length xs
length_by_lines n [] h = total_below-nil n
length_by_lines n (x ∷ xs) h =
    let low : x.0 < n = elim (cases_lt x.0 n) [ inl l ↦ l | inr g ↦ absurd (omega (arith, h x.0 g, count_itself x xs)) ] in
    let rest : total_below n xs ≡ length xs = length_by_lines n xs (λ line l. sym (count_other x xs line (λ e. absurd (omega arith))) ∙ h line l) in
    total_below-cons n x xs ∙ rw (lt-ltb x.0 n low, rest) (omega arith)

total_below-le : (n : ℕ) (xs : List (Reverse ℕ)) → ((line : ℕ) → count_of xs line ≤ 1) → total_below n xs ≤ n
unfolding total_below
total_below-le zero xs h = omega arith
total_below-le (suc n) xs h = omega (arith, h n, total_below-le n xs h)

pub room_for_one : (limit next : ℕ) (xs : List (Reverse ℕ)) (x : Reverse ℕ) → AreLines limit next (x ∷ xs) → length xs < limit
room_for_one limit next xs x k = omega (arith, k.in_limit, length_by_lines next (x ∷ xs) k.below, total_below-le next (x ∷ xs) k.different)

-- ---- which lines are out

out_where : (limit next : ℕ) (free : List (Reverse ℕ)) (line : ℕ) → contains (out_of limit next free) line ≡ true → (line < next) × (count_of free line ≡ 0)
out_where limit next free line h =
    elim (cases_Bool (is_out next free line)) [
      | inl t ↦ let parts = and_parts (ltb line next) (eqb (count_of free line) 0) t in (ltb-true line next parts.0, eqb-true (count_of free line) 0 parts.1)
      | inr f ↦ absurd (true≢false (sym h ∙ contains-filter_failed (is_out next free) (range_with_len 0 limit) line f))
    ]

is_out_at : (next : ℕ) (free : List (Reverse ℕ)) (line : ℕ) → line < next → count_of free line ≡ 0 → is_out next free line ≡ true
is_out_at next free line l z = rw (lt-ltb line next l, z) refl

is_out_not : (next : ℕ) (free : List (Reverse ℕ)) (line : ℕ) → 0 < count_of free line → is_out next free line ≡ false
is_out_not next free line l = rw (ne_eqb (count_of free line) 0 (λ e. absurd (omega arith))) (and_right (ltb line next) false refl)

in_range : (limit line : ℕ) → line < limit → contains (range_with_len 0 limit) line ≡ true
in_range limit line l = contains-range 0 limit line (omega arith) (omega arith)

is_in_out : (limit next : ℕ) (free : List (Reverse ℕ)) (line : ℕ) → next ≤ limit → line < next → count_of free line ≡ 0
    → contains (out_of limit next free) line ≡ true
is_in_out limit next free line n l z = contains-filter_passed (is_out next free) (range_with_len 0 limit) line (is_out_at next free line l z)
    (in_range limit line (omega arith))

-- ---- the view

abbrev seen : ℕ → ℕ → List (Reverse ℕ) → HeapView
seen limit next free = record { limit = limit; out = out_of limit next free; peak = next }

pub seen_new : (limit : ℕ) (free : List (Reverse ℕ)) → free ≡ [] → seen limit 0 free ≡ record { limit = limit; out = []; peak = 0 }
seen_new limit free e = rw (filter_none (is_out 0 free) (range_with_len 0 limit) (λ line. rw (le-ltb line 0 (omega arith)) refl)) refl

pub IsLineHeap-seen : (limit next : ℕ) (free : List (Reverse ℕ)) → AreLines limit next free → IsLineHeap (seen limit next free)
IsLineHeap-seen limit next free k = record {
  rising = IsRising-filter (is_out next free) (range_with_len 0 limit) (IsRising-range 0 limit);
  below_peak = AllByRecursion-weaker (λ line. is_out next free line ≡ true) (λ line. line < next)
      (λ line t. ltb-true line next (and_parts (ltb line next) (eqb (count_of free line) 0) t).0) (out_of limit next free)
      (passed_each (is_out next free) (range_with_len 0 limit));
  in_limit = k.in_limit;
}

-- a line that was out before is handed out again
pub record IsTop (limit next : ℕ) (x : Reverse ℕ) (old new : List (Reverse ℕ)) : Type 0 where
  pub lines : AreLines limit next old
  pub moved : IsPermutation old (x ∷ new)
  pub least : IsUpperBound (λ (a b : Reverse ℕ). nat_cmp b.0 a.0) x old

top_count : (limit next : ℕ) (x : Reverse ℕ) (old new : List (Reverse ℕ)) → IsTop limit next x old new → count_of old x.0 ≡ 1 + count_of new x.0
top_count limit next x old new t = sym (count_permuted old (x ∷ new) x.0 t.moved) ∙ count_itself x new

top_others : (limit next : ℕ) (x : Reverse ℕ) (old new : List (Reverse ℕ)) → IsTop limit next x old new → (line : ℕ) → x.0 ≢ line
    → count_of new line ≡ count_of old line
top_others limit next x old new t line ne = sym (count_other x new line ne) ∙ count_permuted old (x ∷ new) line t.moved

top_below : (limit next : ℕ) (x : Reverse ℕ) (old new : List (Reverse ℕ)) → IsTop limit next x old new → x.0 < next
top_below limit next x old new t = elim (cases_lt x.0 next) [
  | inl l ↦ l
  | inr g ↦ absurd
      (omega (arith, t.lines.below x.0 g, top_count limit next x old new t))
]

pub lines_without_top : (limit next : ℕ) (x : Reverse ℕ) (old new : List (Reverse ℕ)) → IsTop limit next x old new → AreLines limit next new
lines_without_top limit next x old new t = record {
  in_limit = t.lines.in_limit;
  below = λ line l. let low = top_below limit next x old new t in top_others limit next x old new t line (λ e. absurd (omega arith)) ∙ t.lines.below line l;
  different = λ line. let total = count-cons x new line
      ∙ refl in let same = count_permuted old (x ∷ new) line t.moved in let few = t.lines.different line in omega arith;
}

pub top_is_least : (limit next : ℕ) (x : Reverse ℕ) (old new : List (Reverse ℕ)) → IsTop limit next x old new → IsLeastFree (seen limit next old) x.0
top_is_least limit next x old new t =
    let low = top_below limit next x old new t in
    let n = t.lines.in_limit in
    let here = top_count limit next x old new t in
    record {
      in_range = omega arith;
      free = contains-filter_failed (is_out next old) (range_with_len 0 limit) x.0 (is_out_not next old x.0 (omega arith));
      least = λ line l. is_in_out limit next old line n (omega arith) (none_below x old line l t.least);
    }

pub seen_top : (limit next : ℕ) (x : Reverse ℕ) (old new : List (Reverse ℕ)) → IsTop limit next x old new
    → seen limit next new ≡ with_taken (seen limit next old) x.0
seen_top limit next x old new t =
    let low = top_below limit next x old new t in
    let n = t.lines.in_limit in
    let here = top_count limit next x old new t in
    let few = t.lines.different x.0 in
    let none : count_of new x.0 ≡ 0 = omega arith in
    let peak : max next (x.0 + 1) ≡ next = omega arith in
    let out : out_of limit next new ≡ with_line (out_of limit next old) x.0 =
    filter_with (is_out next old) (is_out next new) (range_with_len 0 limit) x.0 (IsRising-range 0 limit) (in_range limit x.0 (omega arith))
    (is_out_not next old x.0 (omega arith)) (is_out_at next new x.0 low none) (λ y ne. rw (top_others limit next x old new t y (λ e. ne (sym e))) refl) in
    rw (peak, out) refl

-- a line that was never out is handed out
fresh_others : (next line : ℕ) → line ≢ next → is_out (next + 1) [] line ≡ is_out next [] line
fresh_others next line ne = let same : ltb line (next + 1) ≡ ltb line next = grind (arith, nat_tests) in rw same refl

fresh_itself : (next : ℕ) → is_out next [] next ≡ false
fresh_itself next = rw (le-ltb next next (omega arith)) refl

lines_fresh : (limit next : ℕ) → next < limit → AreLines limit (next + 1) []
lines_fresh limit next l = record { in_limit = omega arith; below = λ line h. refl; different = λ line. omega arith }

fresh_is_least : (limit next : ℕ) → next < limit → IsLeastFree (seen limit next []) next
fresh_is_least limit next l = record {
  in_range = l;
  free = contains-filter_failed (is_out next []) (range_with_len 0 limit) next (fresh_itself next);
  least = λ line h. is_in_out limit next [] line (omega arith) h refl;
}

seen_fresh : (limit next : ℕ) → next < limit → seen limit (next + 1) [] ≡ with_taken (seen limit next []) next
seen_fresh limit next l =
    let peak : max next (next + 1) ≡ next + 1 = omega arith in
    let out : out_of limit (next + 1) [] ≡ with_line (out_of limit next []) next =
    filter_with (is_out next []) (is_out (next + 1) []) (range_with_len 0 limit) next (IsRising-range 0 limit) (in_range limit next l)
    (fresh_itself next) (is_out_at (next + 1) [] next (omega arith) refl) (fresh_others next) in
    rw (peak, out) refl

-- ---- whether all are out

all_out : (limit : ℕ) → length (out_of limit limit []) ≡ limit
all_out limit =
    length-filter_all (is_out limit []) (range_with_len 0 limit)
    (AllByRecursion-weaker (λ line. line < 0 + limit) (λ line. is_out limit [] line ≡ true) (λ line l. is_out_at limit [] line (omega arith) refl)
    (range_with_len 0 limit) (range_below 0 limit))
    ∙ length-range_with_len 0 limit

pub top_not_all_out : (limit next : ℕ) (x : Reverse ℕ) (old new : List (Reverse ℕ)) → IsTop limit next x old new → length (out_of limit next old) < limit
top_not_all_out limit next x old new t =
    let low = top_below limit next x old new t in
    let n = t.lines.in_limit in
    let here = top_count limit next x old new t in
    omega (
      arith,
      length-range_with_len 0 limit,
      length-filter-lt (is_out next old) (range_with_len 0 limit) x.0 (in_range limit x.0 (omega arith))
          (is_out_not next old x.0 (omega arith)),
    )

fresh_not_all_out : (limit next : ℕ) → next < limit → length (out_of limit next []) < limit
fresh_not_all_out limit next l = omega
    (arith, length-range_with_len 0 limit, length-filter-lt (is_out next []) (range_with_len 0 limit) next (in_range limit next l) (fresh_itself next))

-- ---- a heap in which no free line waits

pub lines_when_empty : (limit next : ℕ) (new : List (Reverse ℕ)) → new ≡ [] → next < limit → AreLines limit (next + 1) new
lines_when_empty limit next new e l = rw e (lines_fresh limit next l)

pub least_when_empty : (limit next : ℕ) (old : List (Reverse ℕ)) → old ≡ [] → next < limit → IsLeastFree (seen limit next old) next
least_when_empty limit next old e l = rw e (fresh_is_least limit next l)

pub seen_when_empty : (limit next : ℕ) (old new : List (Reverse ℕ)) → old ≡ [] → new ≡ [] → next < limit
    → seen limit (next + 1) new ≡ with_taken (seen limit next old) next
seen_when_empty limit next old new e n l = rw (e, n) (seen_fresh limit next l)

pub not_all_out_when_empty : (limit next : ℕ) (old : List (Reverse ℕ)) → old ≡ [] → next < limit → length (out_of limit next old) < limit
not_all_out_when_empty limit next old e l = rw e (fresh_not_all_out limit next l)

pub all_out_when_empty : (limit next : ℕ) (old : List (Reverse ℕ)) → old ≡ [] → next ≡ limit → length (out_of limit next old) ≡ limit
all_out_when_empty limit next old e l = rw (e, l) (all_out limit)

-- ---- a line comes back

pub at_ok : {T E : Type 0} (r : Result T E) (P : Type 0) → IsOk r → OnOk r P → P
at_ok (Ok x) P h p = p
at_ok (Err e) P h p = absurd (true≢false (sym h))

pub lines_with_given : (limit next line : ℕ) (free : List (Reverse ℕ)) → AreLines limit next free → contains (out_of limit next free) line ≡ true
    → AreLines limit next (record { 0 = line } ∷ free)
lines_with_given limit next line free k h =
    let out = out_where limit next free line h in
    let x : Reverse ℕ = record { 0 = line } in
    let low = out.0 in
    record {
      in_limit = k.in_limit;
      below = λ l g. count_other x free l (λ e. absurd (omega arith)) ∙ k.below l g;
      different = λ l. elim (cases_Bool (eqb line l)) [
        | inl e ↦ let none : count_of free l ≡ 0 = sym (ap (count_of free) (eqb-true line l e))
            ∙ out.1 in let total : count_of (x ∷ free) l ≡ 1 + count_of free l = count-cons x free l ∙ rw e refl in omega arith
        | inr n ↦ let same = count_other x free l (eqb-false line l n) in let few = k.different l in omega arith
      ];
    }

pub lines_moved : (limit next : ℕ) (xs ys : List (Reverse ℕ)) → IsPermutation xs ys → AreLines limit next xs → AreLines limit next ys
lines_moved limit next xs ys p k = record {
  in_limit = k.in_limit;
  below = λ line l. count_permuted xs ys line p ∙ k.below line l;
  different = λ line. let same = count_permuted xs ys line p in let few = k.different line in omega arith;
}

given_out : (next line : ℕ) (free new : List (Reverse ℕ)) → IsPermutation (record { 0 = line } ∷ free) new → (y : ℕ)
    → is_out next new y ≡ (is_out next free y && not (eqb y line))
given_out next line free new p y =
    let x : Reverse ℕ = record { 0 = line } in
    let same = count_permuted (x ∷ free) new y p in
    elim (cases_Bool (eqb y line)) [
      | inl e ↦
          let here : line ≡ y = sym (eqb-true y line e) in
          let total : count_of (x ∷ free) y ≡ 1 + count_of free y = count-cons x free y ∙ rw (eq-eqb line y here) refl in
          rw e (is_out_not next new y (omega arith) ∙ sym (and_right (is_out next free y) false refl))
      | inr n ↦
          let others = count_other x free y (λ here. eqb-false y line n (sym here)) in
          rw (n, same ∙ others) (sym (and-true (is_out next free y)))
    ]

pub seen_given : (limit next line : ℕ) (free new : List (Reverse ℕ)) → IsPermutation (record { 0 = line } ∷ free) new
    → seen limit next new ≡ record (seen limit next free) { out = without_line (out_of limit next free) line }
seen_given limit next line free new p = rw
    (filter_without (is_out next free) (is_out next new) (range_with_len 0 limit) line (given_out next line free new p)) refl
