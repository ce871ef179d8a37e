-- Marks on writes, and what they say of the cuts of a tape.
use Rattle.std.proofs.Common.{◌≡◌, ℕ, zero, suc, ◌+◌, ◌-◌, ◌<◌, ◌≤◌, ◌==◌, max, Bool, true, false, cond, ◌||◌, inl, inr, List, [], ◌∷◌, ◌++◌, length, map, take}
use Rattle.std.proofs.Common.{drop, set, replicate, filter, count_by, slice_index_or, refl, sym, ap, ◌∙◌, subst, arith}
use Rattle.std.specs.List.{list_any}
use Rattle.std.proofs.lemmas.Grind.{common_steps}
use Rattle.std.proofs.lemmas.Bool.{cases_lt}
use Rattle.std.proofs.lemmas.List.{map_push, length-map}
use Rattle.std.proofs.Math.Seq.{drop-cons, drop-length, take-append_seam}
use Rattle.list_facts.specs.Lists.{below}
use Rattle.list_facts.proofs.OrderLemmas.{length-below}
use Rattle.std.proofs.lemmas.List.Sums.{count_by-le-length, sum_by-cons, length-filter}
use Rattle.revs_tape.specs.declared.tape.Ref.{Ref}
use Rattle.revs_tape.specs.declared.tape.Ref.TheVariants as refs
use Rattle.revs_tape.specs.declared.tape.Entry.{Entry}
use Rattle.revs_tape.specs.declared.tape.Entry.TheVariants as entries
use Rattle.revs_tape.specs.Tapes.{TapeView, operands}
use Rattle.revs_tape.specs.inside.Marks.{marked, with_mark, with_marks, with_operands}
use Rattle.revs_tape.specs.Cuts as cuts
use Rattle.revs_tape.specs.Measures.{writes_among, steps_of, HasWidth}

-- ---- lists

map-same : (f g : ℕ → Bool) (xs : List ℕ) → ((i : ℕ) → f i ≡ g i) → map f xs ≡ map g xs
map-same f g [] e = refl
map-same f g (x ∷ xs) e = ap (λ (b : Bool). b ∷ map f xs) (e x) ∙ ap (λ z. g x ∷ z) (map-same f g xs e)

set-push : (xs : List Bool) (x : Bool) (j : ℕ) → set (xs ++ x ∷ []) j true ≡ set xs j true ++ ((j == length xs) || x) ∷ []
set-push [] x zero = refl
set-push [] x (suc j) = let past : (suc j == 0) ≡ false = grind (arith, common_steps) in rw past refl
set-push (y ∷ ys) x zero = let past : (0 == suc (length ys)) ≡ false = grind (arith, common_steps) in rw past refl
set-push (y ∷ ys) x (suc j) =
    let past : (suc j == suc (length ys)) ≡ (j == length ys) = grind (arith, common_steps) in
    rw past (ap (λ z. y ∷ z) (set-push ys x j))

-- ---- the steps of a tape, by its references

-- whether a reference is to the write at place i
abbrev is_write : ℕ → Ref → Bool
is_write i (refs.Input j) = false
is_write i (refs.Write j) = j == i

-- whether the write at place i is an operand of this one
abbrev is_operand : ℕ → Entry → Bool
is_operand i (entries.Const bit) = false
is_operand i (entries.Xor a b) = is_write i a || is_write i b
is_operand i (entries.And a b) = is_write i a || is_write i b

-- whether the write at place i is an output, or an operand of a write at place j or later
abbrev is_needed : TapeView → ℕ → ℕ → Bool
is_needed t j i = list_any (is_write i) t.outputs || list_any (is_operand i) (drop j t.entries)

abbrev pub cut_at : TapeView → ℕ → List ℕ
cut_at t j = filter (is_needed t j) (below j)

in_writes : (i : ℕ) (rs : List Ref) → cuts.is_in (writes_among rs) i ≡ list_any (is_write i) rs
in_writes i [] = refl
in_writes i (refs.Input j ∷ rs) = in_writes i rs
in_writes i (refs.Write j ∷ rs) = ap (λ (b : Bool). (j == i) || b) (in_writes i rs)

or_none : (a : Bool) → (a || false) ≡ a
or_none true = refl
or_none false = refl

in_operands : (i : ℕ) (e : Entry) → cuts.is_in (writes_among (operands e)) i ≡ is_operand i e
in_operands i (entries.Const bit) = refl
in_operands i (entries.Xor a b) = in_writes i (a ∷ b ∷ []) ∙ ap (λ (x : Bool). is_write i a || x) (or_none (is_write i b))
in_operands i (entries.And a b) = in_writes i (a ∷ b ∷ []) ∙ ap (λ (x : Bool). is_write i a || x) (or_none (is_write i b))

any_step : (i j : ℕ) (es : List Entry)
    → list_any (λ reads. cuts.is_in reads i) (drop j (map (λ (e : Entry). writes_among (operands e)) es)) ≡ list_any (is_operand i) (drop j es)
any_step i zero [] = refl
any_step i zero (e ∷ es) = rw (in_operands i e, any_step i zero es) refl
any_step i (suc j) [] = refl
any_step i (suc j) (e ∷ es) = any_step i j es

needed_same : (t : TapeView) (j i : ℕ) → cuts.is_needed (steps_of t) (writes_among t.outputs) j i ≡ is_needed t j i
needed_same t j i = rw (in_writes i t.outputs, any_step i j t.entries) refl

filter_same : (p q : ℕ → Bool) (xs : List ℕ) → ((x : ℕ) → p x ≡ q x) → filter p xs ≡ filter q xs
filter_same p q [] same = refl
filter_same p q (x ∷ xs) same = rw (same x, filter_same p q xs same) refl

cut_same : (t : TapeView) (j : ℕ) → cuts.cut_at (steps_of t) (writes_among t.outputs) j ≡ cut_at t j
cut_same t j = filter_same (cuts.is_needed (steps_of t) (writes_among t.outputs) j) (is_needed t j) (below j) (needed_same t j)

-- ---- marks

mark-below : (f : ℕ → Bool) (n : ℕ) (r : Ref) → with_mark (map f (below n)) r ≡ map (λ i. is_write i r || f i) (below n)
mark-below f n (refs.Input i) = refl
mark-below f zero (refs.Write j) = refl
mark-below f (suc n) (refs.Write j) =
    let mine = mark-below f n (refs.Write j) in
    let size : length (map f (below n)) ≡ n = grind (arith, common_steps, length-below n) in
    ap (λ z. set z j true) (map_push f (below n) n)
    ∙ set-push (map f (below n)) (f n) j
    ∙ ap (λ (z : ℕ). set (map f (below n)) j true ++ ((j == z) || f n) ∷ []) size
    ∙ ap (λ z. z ++ ((j == n) || f n) ∷ []) mine
    ∙ sym (map_push (λ i. (j == i) || f i) (below n) n)

or_turned : (a b c : Bool) → (b || (a || c)) ≡ ((a || b) || c)
or_turned true true c = refl
or_turned true false c = refl
or_turned false true c = refl
or_turned false false c = refl

operands-below : (f : ℕ → Bool) (n : ℕ) (e : Entry) → with_operands (map f (below n)) e ≡ map (λ i. is_operand i e || f i) (below n)
operands-below f n (entries.Const bit) = refl
operands-below f n (entries.Xor a b) =
    ap (λ z. with_mark z b) (mark-below f n a)
    ∙ mark-below (λ i. is_write i a || f i) n b
    ∙ map-same (λ i. is_write i b || (is_write i a || f i)) (λ i. (is_write i a || is_write i b) || f i) (below n)
    (λ i. or_turned (is_write i a) (is_write i b) (f i))
operands-below f n (entries.And a b) =
    ap (λ z. with_mark z b) (mark-below f n a)
    ∙ mark-below (λ i. is_write i a || f i) n b
    ∙ map-same (λ i. is_write i b || (is_write i a || f i)) (λ i. (is_write i a || is_write i b) || f i) (below n)
    (λ i. or_turned (is_write i a) (is_write i b) (f i))

marks-below : (f : ℕ → Bool) (n : ℕ) (rs : List Ref) → with_marks (map f (below n)) rs ≡ map (λ i. list_any (is_write i) rs || f i) (below n)
marks-below f n [] = refl
marks-below f n (r ∷ rs) =
    ap (λ z. with_marks z rs) (mark-below f n r)
    ∙ marks-below (λ i. is_write i r || f i) n rs
    ∙ map-same (λ i. list_any (is_write i) rs || (is_write i r || f i)) (λ i. (is_write i r || list_any (is_write i) rs) || f i) (below n)
    (λ i. or_turned (is_write i r) (list_any (is_write i) rs) (f i))

replicate-push : (n : ℕ) → replicate (suc n) false ≡ replicate n false ++ false ∷ []
replicate-push zero = refl
replicate-push (suc n) = ap (λ z. false ∷ z) (replicate-push n)

none-below : (n : ℕ) → replicate n false ≡ map (λ i. false) (below n)
none-below zero = refl
none-below (suc n) = replicate-push n ∙ ap (λ z. z ++ false ∷ []) (none-below n) ∙ sym (map_push (λ i. false) (below n) n)

-- ---- cuts

-- the marks of the writes below j
abbrev pub marks_at : TapeView → ℕ → List Bool
marks_at t j = map (is_needed t j) (below j)

pub marks_begin : (t : TapeView) → with_marks (replicate (length t.entries) false) t.outputs ≡ marks_at t (length t.entries)
marks_begin t =
    ap (λ z. with_marks z t.outputs) (none-below (length t.entries))
    ∙ marks-below (λ i. false) (length t.entries) t.outputs
    ∙ map-same (λ i. list_any (is_write i) t.outputs || false) (is_needed t (length t.entries)) (below (length t.entries))
    (λ i. ap (λ (es : List Entry). list_any (is_write i) t.outputs || list_any (is_operand i) es) (sym (drop-length t.entries)))

or_into : (a b c : Bool) → (b || (a || c)) ≡ (a || (b || c))
or_into true true c = refl
or_into true false c = refl
or_into false true c = refl
or_into false false c = refl

marks_step : (t : TapeView) (j : ℕ) (e : Entry) → drop j t.entries ≡ e ∷ drop (suc j) t.entries
    → with_operands (map (is_needed t (suc j)) (below j)) e ≡ marks_at t j
marks_step t j e cut =
    operands-below (is_needed t (suc j)) j e
    ∙ map-same (λ i. is_operand i e || is_needed t (suc j) i) (is_needed t j) (below j)
    (λ i. or_into (list_any (is_write i) t.outputs) (is_operand i e) (list_any (is_operand i) (drop (suc j) t.entries))
    ∙ ap (λ (es : List Entry). list_any (is_write i) t.outputs || list_any (is_operand i) es) (sym cut))

pub written_back : (xs ys : List Bool) (n : ℕ) → n ≡ length xs → take n (xs ++ ys) ≡ xs
written_back xs ys n size = rw size (take-append_seam xs ys)

fronts_same : (xs ys : List Bool) (x y : Bool) → length xs ≡ length ys → xs ++ x ∷ [] ≡ ys ++ y ∷ [] → xs ≡ ys
fronts_same xs ys x y size e =
    sym (take-append_seam xs (x ∷ [])) ∙ ap (take (length xs)) e ∙ ap (λ (n : ℕ). take n (ys ++ y ∷ [])) size ∙ take-append_seam ys (y ∷ [])

pub marked-length : (marks : List Bool) → marked marks ≤ length marks
marked-length ms = count_by-le-length (λ (mark : Bool). mark) ms

marked-cons : (m : Bool) (ms : List Bool) → marked (m ∷ ms) ≡ cond m 1 0 + marked ms
marked-cons m ms = sum_by-cons (λ (x : Bool). cond x 1 0) m ms

pub marked-push : (marks : List Bool) (b : Bool) → marked (marks ++ b ∷ []) ≡ marked marks + cond b 1 0
marked-push [] b = marked-cons b [] ∙ omega arith
marked-push (m ∷ ms) b = marked-cons m (ms ++ b ∷ []) ∙ ap (λ (n : ℕ). cond m 1 0 + n) (marked-push ms b) ∙ omega (arith, marked-cons m ms)

marked-map : (p : ℕ → Bool) (xs : List ℕ) → marked (map p xs) ≡ count_by p xs
marked-map p [] = refl
marked-map p (x ∷ xs) = marked-cons (p x) (map p xs) ∙ ap (λ (n : ℕ). cond (p x) 1 0 + n) (marked-map p xs) ∙ sym (sum_by-cons (λ (y : ℕ). cond (p y) 1 0) x xs)

marked-filter : (p : ℕ → Bool) (xs : List ℕ) → marked (map p xs) ≡ length (filter p xs)
marked-filter p xs = marked-map p xs ∙ sym (length-filter p xs)

-- ---- the widest cut so far

-- the marks below their number, how many are marked, and the widest cut from there on
pub record IsCounted (t : TapeView) (marks : List Bool) (live width : ℕ) : Type 0 where
  pub short : length marks ≤ length t.entries
  pub are : marks ≡ marks_at t (length marks)
  pub count : live ≡ marked marks
  pub most : (k : ℕ) → length marks ≤ k → k ≤ length t.entries → length (cut_at t k) ≤ width
  pub at : ℕ
  pub inside : at ≤ length t.entries
  pub reached : length (cut_at t at) ≡ width

length-marks_at : (t : TapeView) (j : ℕ) → length (marks_at t j) ≡ j
length-marks_at t j = grind (arith, common_steps, length-below j)

pub counted_begin : (t : TapeView) (marks : List Bool) → marks ≡ with_marks (replicate (length t.entries) false) t.outputs
    → IsCounted t marks (marked marks) (marked marks)
counted_begin t marks e =
    let whole : marks ≡ marks_at t (length t.entries) = e ∙ marks_begin t in
    let size : length marks ≡ length t.entries = ap length whole ∙ length-marks_at t (length t.entries) in
    let count : length (cut_at t (length t.entries)) ≡ marked marks = sym
    (ap marked whole ∙ marked-filter (is_needed t (length t.entries)) (below (length t.entries))) in
    record {
      short = omega (arith, size);
      are = whole ∙ ap (marks_at t) (sym size);
      count = refl;
      most = λ k low high. let same : k ≡ length t.entries = omega (arith, size, low, high) in
          subst (λ (z : ℕ). length (cut_at t z) ≤ marked marks) (sym same) (omega (arith, count));
      at = length t.entries;
      inside = omega arith;
      reached = count;
    }

pub counted_step : (t : TapeView) (marks more : List Bool) (b : Bool) (e : Entry) (live width later : ℕ) → IsCounted t (marks ++ b ∷ []) live width
    → drop (length marks) t.entries ≡ e ∷ drop (suc (length marks)) t.entries → more ≡ with_operands marks e → later ≡ marked more
    → IsCounted t more later (max width later)
counted_step t marks more b e live width later is cut new count =
    let j : ℕ = length marks in
    let one : length (marks ++ b ∷ []) ≡ suc j = grind (arith, common_steps) in
    let whole : marks ++ b ∷ [] ≡ map (is_needed t (suc j)) (below j) ++ is_needed t (suc j) j ∷ [] =
    is.are ∙ ap (marks_at t) one ∙ map_push (is_needed t (suc j)) (below j) j in
    let front : marks ≡ map (is_needed t (suc j)) (below j) =
    fronts_same marks (map (is_needed t (suc j)) (below j)) b (is_needed t (suc j) j) (grind (arith, common_steps, length-below j)) whole in
    let now : more ≡ marks_at t j = new ∙ ap (λ (z : List Bool). with_operands z e) front ∙ marks_step t j e cut in
    let size : length more ≡ j = ap length now ∙ length-marks_at t j in
    let here : length (cut_at t j) ≡ later = sym (count ∙ ap marked now ∙ marked-filter (is_needed t j) (below j)) in
    let inside : j ≤ length t.entries = omega (arith, is.short, one) in
    let most : (k : ℕ) → length more ≤ k → k ≤ length t.entries → length (cut_at t k) ≤ max width later = λ k low high.
    elim (cases_lt j k) as (λ _. length (cut_at t k) ≤ max width later) [
      | inl above ↦ omega (arith, is.most k (omega (arith, above, one)) high)
      | inr not_above ↦ let same : k ≡ j = omega (arith, not_above, low, size) in
          subst (λ (z : ℕ). length (cut_at t z) ≤ max width later) (sym same) (omega (arith, here))
    ] in
    let widest : (at : ℕ) × (at ≤ length t.entries) × (length (cut_at t at) ≡ max width later) =
    elim (cases_lt width later) as (λ _. (at : ℕ) × (at ≤ length t.entries) × (length (cut_at t at) ≡ max width later)) [
      | inl wider ↦ (j, inside, omega (arith, here, wider))
      | inr no_wider ↦ (is.at, is.inside, omega (arith, is.reached, no_wider))
    ] in
    record {
      short = omega (arith, inside, size);
      are = now ∙ ap (marks_at t) (sym size);
      count = count;
      most = most;
      at = widest.0;
      inside = widest.1;
      reached = widest.2;
    }

pub cut_where : (es fs : List Entry) (j k : ℕ) (d : Entry) → fs ≡ es → k ≡ j → j < length es → drop j es ≡ slice_index_or fs k d ∷ drop (suc j) es
cut_where es fs j k d same place inside = rw same (rw place (drop-cons es j d inside))

-- a step as the code takes it
pub counted_again : (t : TapeView) (old front seen more : List Bool) (b : Bool) (e : Entry) (live width taken added widest : ℕ)
    → IsCounted t old live width → old ≡ front ++ b ∷ [] → seen ≡ front → more ≡ with_operands seen e → marked seen + added ≡ marked more
    → drop (length front) t.entries ≡ e ∷ drop (suc (length front)) t.entries → taken ≡ cond b 1 0 → widest ≡ max width (live - taken + added)
    → IsCounted t more (live - taken + added) widest
counted_again t old front seen more b e live width taken added widest is cut same new sum next took top =
    let begun : IsCounted t (front ++ b ∷ []) live width = subst (λ (z : List Bool). IsCounted t z live width) cut is in
    let made : more ≡ with_operands front e = new ∙ ap (λ (z : List Bool). with_operands z e) same in
    let count : live - taken + added ≡ marked more =
    omega (arith, begun.count, marked-push front b, ap marked same, sum, took) in
    subst (λ (z : ℕ). IsCounted t more (live - taken + added) z) (sym top)
    (counted_step t front more b e live width (live - taken + added) begun next made count)

pub counted_end : (t : TapeView) (live width : ℕ) → IsCounted t [] live width → HasWidth t width
counted_end t live width is =
    let steps : length (steps_of t) ≡ length t.entries = length-map t.entries (λ (e : Entry). writes_among (operands e)) in
    record {
      most = λ j high. rw (cut_same t j) (is.most j (omega arith) (omega (arith, steps, high)));
      at = is.at;
      inside = omega (arith, steps, is.inside);
      reached = rw (cut_same t is.at) is.reached;
    }
