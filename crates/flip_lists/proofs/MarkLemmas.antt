-- The open lines are counted, and each line that has a mark is a line of the change.
use Rattle.std.proofs.Common.{◌≡◌, ◌∙◌, ℕ, zero, suc, ◌+◌, ◌<◌, ◌≤◌, Bool, true, false, ◌||◌, List, [], ◌∷◌, length, take, drop, get_or, set, min, leb, replicate, ltb, cond, arith, refl, sym, ap, subst, inl, inr}
use Rattle.std.specs.Prelude.{◌==◌, slice_index}
use Rattle.std.specs.List.{AllByRecursion, count_by, filter, fold, list_any}
use Rattle.std.proofs.lemmas.List.Sums.{fold_more, sum_by-cons}
use Rattle.std.proofs.lemmas.Bool.{cases_Bool, cases_eq, eqb-false, leb-true, leb-false, lt-ltb}
use Rattle.std.proofs.lemmas.List.{drop_all, take_all}
use Rattle.list_facts.specs.Lists.{IsAmong}
use Rattle.list_facts.proofs.AmongLemmas.{all_from_among, among_left, among_right}
use Rattle.flip_lists.specs.declared.flip.Flip.{Flip}
use Rattle.flip_lists.specs.declared.marks.TheConstants.{OPEN}
use Rattle.flip_lists.specs.declared.marks.Marks.{Marks}
use Rattle.flip_lists.specs.Marks.{AreKept, Becomes, FreesBehind, Notes, cleared, has, listed, notes_of, passed_without, with_freed, with_passed}
use Rattle.flip_lists.specs.inside.Marks.{GetMarks}

-- ---- how many are open

counted_first : (test : ℕ → Bool) (x : ℕ) (xs : List ℕ) → count_by test (x ∷ xs) ≡ cond (test x) 1 0 + count_by test xs
counted_first test x xs = sum_by-cons (λ y. cond (test y) 1 0) x xs

none_counted : (test : ℕ → Bool) (words : List ℕ) → test 0 ≡ false → ((line : ℕ) → slice_index words line ≡ 0) → count_by test words ≡ 0
none_counted test [] none all = refl
none_counted test (x ∷ xs) none all =
    counted_first test x xs ∙ ap (λ n. cond (test n) 1 0 + count_by test xs) (all 0) ∙ ap (λ b. cond b 1 0 + count_by test xs) none
    ∙ ap (λ n. cond false 1 0 + n) (none_counted test xs none (λ line. all (suc line)))

one_more : (b rest : Bool) (n : ℕ) → ltb 0 n ≡ rest → ltb 0 (cond b 1 0 + n) ≡ (b || rest)
one_more true rest n is = lt-ltb 0 (1 + n) (omega arith)
one_more false rest n is = let same : 0 + n ≡ n = omega arith in rw same is

pub any_counted : (test : ℕ → Bool) (words : List ℕ) → ltb 0 (count_by test words) ≡ list_any test words
any_counted test [] = refl
any_counted test (x ∷ xs) =
    ap (ltb 0) (counted_first test x xs) ∙ one_more (test x) (list_any test xs) (count_by test xs) (any_counted test xs)

-- ---- no marks

zeros : (n line : ℕ) → slice_index (replicate n 0) line ≡ 0
zeros zero line = refl
zeros (suc n) zero = refl
zeros (suc n) (suc line) = zeros n line

unmarked : (marks : Marks) → ((line : ℕ) → slice_index marks.words.items line ≡ 0) → marks.open_lines ≡ 0 → AreKept marks
unmarked marks all none = record {
  counted = none ∙ sym (none_counted (λ word. has word OPEN) marks.words.items refl all);
  listed = λ line marked. absurd (marked (all line));
}

pub new_kept : (marks : Marks) (lines : ℕ) → marks.words.items ≡ replicate lines 0 → marks.open_lines ≡ 0 → AreKept marks
new_kept marks lines are none = unmarked marks (λ line. ap (λ ws. slice_index ws line) are ∙ zeros lines line) none

zero_at : (words : List ℕ) (line : ℕ) → slice_index (set words line 0) line ≡ 0
zero_at [] line = refl
zero_at (x ∷ xs) zero = refl
zero_at (x ∷ xs) (suc line) = zero_at xs line

zero_still : (words : List ℕ) (line other : ℕ) → slice_index words line ≡ 0 → slice_index (set words other 0) line ≡ 0
zero_still [] line other is = refl
zero_still (x ∷ xs) zero zero is = refl
zero_still (x ∷ xs) zero (suc other) is = is
zero_still (x ∷ xs) (suc line) zero is = is
zero_still (x ∷ xs) (suc line) (suc other) is = zero_still xs line other is

zero_stays : (lines words : List ℕ) (line : ℕ) → slice_index words line ≡ 0 → slice_index (fold (λ ws l. set ws l 0) words lines) line ≡ 0
zero_stays [] words line is = is
zero_stays (l ∷ lines) words line is = zero_stays lines (set words l 0) line (zero_still words line l is)

zero_among : (lines words : List ℕ) (line : ℕ) → IsAmong line lines → slice_index (fold (λ ws l. set ws l 0) words lines) line ≡ 0
zero_among [] words line among = absurd among
zero_among (l ∷ lines) words line among =
    elim among as (λ _. slice_index (fold (λ ws l. set ws l 0) (set words l 0) lines) line ≡ 0) [
      | inl same ↦ zero_stays lines (set words l 0) line (subst (λ k. slice_index (set words k 0) line ≡ 0) same (zero_at words line))
      | inr later ↦ zero_among lines (set words l 0) line later
    ]

pub cleared_kept : (old new : Marks) → notes_of new ≡ cleared (notes_of old) → new.open_lines ≡ 0 → AreKept old → AreKept new
cleared_kept old new are none kept =
    unmarked new (λ line. ap (λ notes. slice_index notes.words line) are
    ∙ elim (cases_eq (slice_index old.words.items line) 0) [
      | inl is ↦ zero_stays old.lines.items old.words.items line is
      | inr marked ↦ zero_among old.lines.items old.words.items line (kept.listed line marked)
    ]) none

-- ---- lines of the change

among_filter : (test : ℕ → Bool) (x : ℕ) (xs : List ℕ) → IsAmong x xs → test x ≡ true → IsAmong x (filter test xs)
among_filter test x [] among passes = absurd among
among_filter test x (y ∷ ys) among passes =
    elim among as (λ _. IsAmong x (filter test (y ∷ ys))) [
      | inl same ↦ let is : test y ≡ true = subst (λ z. test z ≡ true) same passes in rw is (inl same)
      | inr later ↦ elim (cases_Bool (test y)) [
        | inl e ↦ rw e (inr (among_filter test x ys later passes))
        | inr e ↦ rw e (among_filter test x ys later passes)
      ]
    ]

pub all_listed : (old new : Marks) (lines : List ℕ) → notes_of new ≡ listed lines (notes_of old) → AreKept old
    → AllByRecursion (λ line. IsAmong line new.lines.items) lines
all_listed old new lines are kept =
    all_from_among (λ line. IsAmong line new.lines.items) lines (λ line among.
    let test : ℕ → Bool = λ l. slice_index old.words.items l == 0 in
    subst (IsAmong line) (sym (ap (λ notes. notes.lines) are))
    (elim (cases_Bool (slice_index old.words.items line == 0)) [
      | inl none ↦ among_right line old.lines.items (filter test lines) (among_filter test line lines among none)
      | inr some ↦ among_left line old.lines.items (filter test lines) (kept.listed line (eqb-false (slice_index old.words.items line) 0 some))
    ]))

-- ---- what the calls leave

pub becomes_cleared : (old new : Marks) (at : ℕ) → new.words.items ≡ fold (λ ws l. set ws l 0) old.words.items (take at old.lines.items)
    → length old.lines.items ≤ at → new.lines.items ≡ [] → new.passed ≡ old.passed → new.open_lines ≡ 0
    → Becomes old new (cleared (notes_of old))
becomes_cleared old new at words end lines passed none =
    let all = words ∙ ap (fold (λ ws l. set ws l 0) old.words.items) (take_all at old.lines.items end) in
    let are : notes_of new ≡ cleared (notes_of old) =
    ap (λ ws. record { words = ws; lines = new.lines.items }) all
    ∙ ap (λ ls. record { words = fold (λ ws l. set ws l 0) old.words.items old.lines.items; lines = ls }) lines in
    record { are = are; passed = passed; kept = cleared_kept old new are none }

pub becomes_listed : (old new : Marks) (lines : List ℕ) → notes_of new ≡ listed lines (notes_of old) → new.passed ≡ old.passed
    → new.open_lines ≡ old.open_lines → Becomes old new (listed lines (notes_of old))
becomes_listed old new lines are passed count = record {
  are = are;
  passed = passed;
  kept = λ kept.
      let words : new.words.items ≡ old.words.items = ap (λ notes. notes.words) are in
      record {
        counted = count ∙ kept.counted ∙ ap (count_by (λ word. has word OPEN)) (sym words);
        listed = λ line marked. subst (IsAmong line) (sym (ap (λ notes. notes.lines) are))
            (among_left line old.lines.items (filter (λ l. slice_index old.words.items l == 0) lines)
            (kept.listed line (λ none. marked (ap (λ ws. slice_index ws line) words ∙ none))));
      };
}

-- the lines of a flip are listed, and get marks
pub becomes_marked : (old mid new : Marks) (lines : List ℕ) (mark : Notes → Notes) → Becomes old mid (listed lines (notes_of old))
    → GetMarks lines true mid new (mark (notes_of mid)) → Becomes old new (mark (listed lines (notes_of old)))
becomes_marked old mid new lines mark first marked = record {
  are = marked.are ∙ ap mark first.are;
  passed = marked.passed ∙ first.passed;
  kept = λ kept. marked.kept (first.kept kept) (λ all. all_listed old mid lines first.are kept);
}

-- ---- flips that are passed over, one after another

-- a flip was freed, and of the flips that are passed over behind it the first few are so
pub record ArePassed (flip : Flip) (place : ℕ) (walked : List Flip) (old : Marks) (passed : List Flip) (few : ℕ) (now : Marks) : Type 0 where
  pub are : notes_of now ≡ fold with_passed (with_freed (notes_of old) flip) (take few passed)
  pub without : now.passed ≡ passed_without place old.passed
  pub back : passed ≡ drop (min now.passed (length walked)) walked
  pub kept : AreKept old → AreKept now

pub more_passed : (flip : Flip) (place : ℕ) (walked : List Flip) (old : Marks) (passed : List Flip) (few : ℕ) (now new : Marks) (d : Flip)
    → ArePassed flip place walked old passed few now → few < length passed → Becomes now new (with_passed (notes_of now) (get_or passed few d))
    → ArePassed flip place walked old passed (few + 1) new
more_passed flip place walked old passed few now new d so within is = record {
  are = is.are ∙ ap (λ notes. with_passed notes (get_or passed few d)) so.are
      ∙ sym (fold_more with_passed (with_freed (notes_of old) flip) passed few d within);
  without = is.passed ∙ so.without;
  back = so.back ∙ ap (λ n. drop (min n (length walked)) walked) (sym is.passed);
  kept = λ kept. is.kept (so.kept kept);
}

drop_min : (n : ℕ) (flips : List Flip) → drop (min n (length flips)) flips ≡ drop n flips
drop_min n flips =
    elim (cases_Bool (leb n (length flips))) [
      | inl e ↦ let low : min n (length flips) ≡ n = let le = leb-true n (length flips) e in omega arith in ap (λ m. drop m flips) low
      | inr e ↦ let past = leb-false n (length flips) e in
          drop_all (min n (length flips)) flips (omega arith) ∙ sym (drop_all n flips (omega arith))
    ]

pub all_passed : (flip : Flip) (place : ℕ) (walked : List Flip) (old : Marks) (passed : List Flip) (few : ℕ) (now : Marks)
    → ArePassed flip place walked old passed few now → length passed ≤ few → FreesBehind flip place walked old now
all_passed flip place walked old passed few now so end = record {
  passed = so.without;
  are = so.are ∙ ap (fold with_passed (with_freed (notes_of old) flip)) (take_all few passed end ∙ so.back ∙ drop_min now.passed walked);
  kept = so.kept;
}
