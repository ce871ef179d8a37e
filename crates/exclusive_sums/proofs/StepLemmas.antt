-- A step of the code through two lists in order: what stands first in them, and how far each list goes.
use mir.Val.{bool_byte}
use Rattle.std.proofs.Common.{◌≡◌, ◌⊎◌, ℕ, suc, ◌+◌, ◌<◌, ◌≤◌, min, leb, ltb, eqb, Bool, true, false, not, ◌&&◌, List, [], ◌∷◌, ◌++◌, length, drop, get_or}
use Rattle.std.proofs.Common.{refl, sym, ap, ◌∙◌, inl, inr, arith}
use Rattle.std.specs.Cmp.Lexicographic.{slice_cmp}
use Rattle.std.specs.Option.{option_to_list}
use Rattle.std.specs.Ordering.{nat_cmp, is_ge, is_le}
use Rattle.std.specs.declared.cmp.Ordering.{Ordering}
use Rattle.std.specs.declared.cmp.Ordering.TheVariants.{Less, Equal, Greater}
use Rattle.std.proofs.lemmas.Bool.{cases_Bool, cases_lt, lt-ltb, le-ltb, le-leb, lt-leb, eq-eqb, ne_eqb}
use Rattle.std.proofs.lemmas.List.{append_assoc}
use Rattle.std.proofs.Math.Seq.{drop-cons}
use Rattle.list_facts.proofs.CutLemmas.{advanced, drop_read}
use Rattle.revs_tape.specs.inside.Aligned.{aligned, by_order}
use Rattle.revs_tape.specs.inside.Sums.{exclusive_sum_of, union_of}
use Rattle.exclusive_sums.specs.declared.cube.Literal.{Literal}
use Rattle.exclusive_sums.specs.Cubes.{same_sign}
use Rattle.exclusive_sums.specs.inside.Merging.{by_input, differences, third_of, thirds}

-- ---- two numbers

-- the tests of a number against a greater one
record IsLess (m n : ℕ) : Type 0 where
  less : ltb m n ≡ true
  not_more : ltb n m ≡ false
  other : eqb m n ≡ false
  at_most : leb m n ≡ true
  not_at_least : leb n m ≡ false
  least : min m n ≡ m
  least_turned : min n m ≡ m

is_less : (m n : ℕ) → m < n → IsLess m n
is_less m n h =
    let le : m ≤ n = omega (arith, h) in
    record {
      less = lt-ltb m n h;
      not_more = le-ltb n m le;
      other = ne_eqb m n (λ e. absurd (omega (arith, h, e)));
      at_most = le-leb m n le;
      not_at_least = lt-leb n m h;
      least = omega (arith, le);
      least_turned = omega (arith, le);
    }

abbrev Order : ℕ → ℕ → Type 0
Order m n = IsLess m n ⊎ ((m ≡ n) ⊎ ((eqb m n ≡ false) × IsLess n m))

order : (m n : ℕ) → Order m n
order m n =
    elim (cases_lt m n) as (λ _. Order m n) [
      | inl less ↦ inl (is_less m n less)
      | inr other ↦ elim (cases_lt n m) as (λ _. Order m n) [
        | inl more ↦ inr (inr (ne_eqb m n (λ e. absurd (omega (arith, more, e))), is_less n m more))
        | inr same ↦ inr (inl (omega (arith, other, same)))
      ]
    ]

not_below : (n : ℕ) → ltb n n ≡ false
not_below n = le-ltb n n (omega arith)

at_itself : (n : ℕ) → leb n n ≡ true
at_itself n = le-leb n n (omega arith)

min_itself : (n : ℕ) → min n n ≡ n
min_itself n = omega arith

-- ---- what stands first

union_first : (m n : ℕ) (ms ns : List ℕ) → Order m n
    → union_of (m ∷ ms) (n ∷ ns) ≡ min m n ∷ union_of (drop (bool_byte (leb m n)) (m ∷ ms)) (drop (bool_byte (leb n m)) (n ∷ ns))
union_first m n ms ns (inl l) = rw (l.least, l.less, l.at_most, l.not_at_least) refl
union_first m n ms ns (inr (inl same)) = rw same (rw (min_itself n, not_below n, eq-eqb n n refl, at_itself n) refl)
union_first m n ms ns (inr (inr g)) = rw (g.1.least_turned, g.1.not_more, g.0, g.1.at_most, g.1.not_at_least) refl

thirds_first : (l m : Literal) (ls ms : List Literal) → Order l.input m.input
    → thirds (aligned by_input (l ∷ ls) (m ∷ ms)) ≡ option_to_list (third_of l m)
    ++ thirds (aligned by_input (drop (bool_byte (leb l.input m.input)) (l ∷ ls)) (drop (bool_byte (leb m.input l.input)) (m ∷ ms)))
thirds_first l m ls ms (inl t) = rw (t.less, t.at_most, t.not_at_least) refl
thirds_first l m ls ms (inr (inl same)) =
    rw same (rw (not_below m.input, eq-eqb m.input m.input refl, at_itself m.input)
    (elim (cases_Bool (same_sign l.positive m.positive)) [ inl e ↦ rw e refl | inr e ↦ rw e refl ]))
thirds_first l m ls ms (inr (inr g)) = rw (g.1.not_more, g.1.less, g.0, g.1.at_most, g.1.not_at_least) refl

differences_first : (l m : Literal) (ls ms : List Literal) → Order l.input m.input
    → differences (aligned by_input (l ∷ ls) (m ∷ ms)) ≡ bool_byte (not (eqb l.input m.input && same_sign l.positive m.positive))
    + differences (aligned by_input (drop (bool_byte (leb l.input m.input)) (l ∷ ls)) (drop (bool_byte (leb m.input l.input)) (m ∷ ms)))
differences_first l m ls ms (inl t) = rw (t.less, t.other, t.at_most, t.not_at_least) refl
differences_first l m ls ms (inr (inl same)) =
    rw same (rw (not_below m.input, eq-eqb m.input m.input refl, at_itself m.input)
    (elim (cases_Bool (same_sign l.positive m.positive)) [ inl e ↦ rw e refl | inr e ↦ rw e refl ]))
differences_first l m ls ms (inr (inr g)) = rw (g.1.not_more, g.0, g.1.at_most, g.1.not_at_least) refl

-- ---- a turn of each loop

pub union_step : (left right so_far now whole : List ℕ) (i j a b : ℕ) → i < length left → j < length right
    → a ≡ bool_byte (leb (get_or left i 0) (get_or right j 0)) → b ≡ bool_byte (leb (get_or right j 0) (get_or left i 0))
    → now ≡ so_far ++ min (get_or left i 0) (get_or right j 0) ∷ [] → so_far ++ union_of (drop i left) (drop j right) ≡ whole
    → now ++ union_of (drop (i + a) left) (drop (j + b) right) ≡ whole
union_step left right so_far now whole i j a b low high by_a by_b put was =
    let m = get_or left i 0 in
    let n = get_or right j 0 in
    let begun = rw (drop-cons left i 0 low, drop-cons right j 0 high) at was in
    let first = rw (union_first m n (drop (suc i) left) (drop (suc j) right) (order m n)) at begun in
    rw (put, by_a, by_b, advanced left i 0 (leb m n) low, advanced right j 0 (leb n m) high, append_assoc) first

first_apart : (x y : List ℕ) (xs ys : List (List ℕ)) (o : Ordering) → slice_cmp nat_cmp x y ≡ o
    → exclusive_sum_of (x ∷ xs) (y ∷ ys) ≡ by_order o (x ∷ []) [] (y ∷ [])
    ++ exclusive_sum_of (drop (bool_byte (is_le o)) (x ∷ xs)) (drop (bool_byte (is_ge o)) (y ∷ ys))
first_apart x y xs ys Less e = rw e refl
first_apart x y xs ys Equal e = rw e refl
first_apart x y xs ys Greater e = rw e refl

passed : (xs : List (List ℕ)) (i : ℕ) (x : List ℕ) (t : Bool) → i < length xs → x ≡ get_or xs i x
    → drop (i + bool_byte t) xs ≡ drop (bool_byte t) (x ∷ drop (i + 1) xs)
passed xs i x true low is = refl
passed xs i x false low is = let none : i + 0 ≡ i = omega arith in ap (λ (n : ℕ). drop n xs) none ∙ drop_read xs i x low is

pub exclusive_sum_step : (left right so_far now whole : List (List ℕ)) (i j a b : ℕ) (x y : List ℕ) (o : Ordering) → i < length left → j < length right
    → x ≡ get_or left i x → y ≡ get_or right j y → o ≡ slice_cmp nat_cmp x y → a ≡ bool_byte (is_le o) → b ≡ bool_byte (is_ge o)
    → now ≡ so_far ++ by_order o (x ∷ []) [] (y ∷ []) → so_far ++ exclusive_sum_of (drop i left) (drop j right) ≡ whole
    → now ++ exclusive_sum_of (drop (i + a) left) (drop (j + b) right) ≡ whole
exclusive_sum_step left right so_far now whole i j a b x y o low high is_x is_y is by_a by_b put was =
    let begun = rw (drop_read left i x low is_x, drop_read right j y high is_y) at was in
    let first = rw (first_apart x y (drop (i + 1) left) (drop (j + 1) right) o (sym is)) at begun in
    rw (put, by_a, by_b, passed left i x (is_le o) low is_x, passed right j y (is_ge o) high is_y, append_assoc) first

-- no literal, where a list has ended
abbrev none : Literal
none = record { input = 0; positive = false }

pub thirds_step : (left right so_far now whole : List Literal) (i j a b : ℕ) → i < length left → j < length right
    → a ≡ bool_byte (leb (get_or left i none).input (get_or right j none).input) → b ≡ bool_byte (leb (get_or right j none).input (get_or left i none).input)
    → now ≡ so_far ++ option_to_list (third_of (get_or left i none) (get_or right j none))
    → so_far ++ thirds (aligned by_input (drop i left) (drop j right)) ≡ whole
    → now ++ thirds (aligned by_input (drop (i + a) left) (drop (j + b) right)) ≡ whole
thirds_step left right so_far now whole i j a b low high by_a by_b put was =
    let l = get_or left i none in
    let m = get_or right j none in
    let begun = rw (drop-cons left i none low, drop-cons right j none high) at was in
    let first = rw (thirds_first l m (drop (suc i) left) (drop (suc j) right) (order l.input m.input)) at begun in
    rw (put, by_a, by_b, advanced left i none (leb l.input m.input) low, advanced right j none (leb m.input l.input) high, append_assoc) first

pub differences_step : (left right : List Literal) (count more whole : ℕ) (i j a b : ℕ) → i < length left → j < length right
    → a ≡ bool_byte (leb (get_or left i none).input (get_or right j none).input) → b ≡ bool_byte (leb (get_or right j none).input (get_or left i none).input)
    → more ≡ bool_byte (not (eqb (get_or left i none).input (get_or right j none).input
    && same_sign (get_or left i none).positive (get_or right j none).positive))
    → count + differences (aligned by_input (drop i left) (drop j right)) ≡ whole
    → count + more + differences (aligned by_input (drop (i + a) left) (drop (j + b) right)) ≡ whole
differences_step left right count more whole i j a b low high by_a by_b put was =
    let l = get_or left i none in
    let m = get_or right j none in
    let begun = rw (drop-cons left i none low, drop-cons right j none high) at was in
    let first = differences_first l m (drop (suc i) left) (drop (suc j) right) (order l.input m.input) in
    rw (by_a, by_b, put, advanced left i none (leb l.input m.input) low, advanced right j none (leb m.input l.input) high) (omega (arith, begun, first))

some_way : (m n : ℕ) → Order m n → 1 ≤ bool_byte (leb m n) + bool_byte (leb n m)
some_way m n (inl l) = rw (l.at_most, l.not_at_least) (omega arith)
some_way m n (inr (inl same)) = rw same (rw (at_itself n) (omega arith))
some_way m n (inr (inr g)) = rw (g.1.at_most, g.1.not_at_least) (omega arith)

one_more : (more : ℕ) (t : Bool) → more ≡ bool_byte t → more ≤ 1
one_more more true is = omega (arith, is)
one_more more false is = omega (arith, is)

-- no more were counted than places passed
pub still_few : (m n count i j a b more : ℕ) (t : Bool) → count ≤ i + j → a ≡ bool_byte (leb m n) → b ≡ bool_byte (leb n m) → more ≡ bool_byte t
    → count + more ≤ (i + a) + (j + b)
still_few m n count i j a b more t few by_a by_b is =
    let one = one_more more t is in
    let some : 1 ≤ a + b = rw (by_a, by_b) (some_way m n (order m n)) in
    omega (arith, few, one, some)
