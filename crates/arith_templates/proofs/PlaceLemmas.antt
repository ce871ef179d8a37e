-- Sums, differences, increments and products, place by place.
use Rattle.std.proofs.Common.{◌≡◌, ℕ, suc, ◌+◌, ◌*◌, ◌^◌, ◌<◌, ◌≤◌, ◌↔◌, Bool, true, false, ◌&&◌, List}
use Rattle.std.proofs.Common.{[], ◌∷◌, ◌++◌, length, take, drop, refl, sym, ap, ◌∙◌, arith, length-append, length-drop}
use Rattle.std.proofs.lemmas.List.{length-take-le, take-append-drop}
use Rattle.std.proofs.Math.Nat.{pow-suc}
use Rattle.std.specs.Bool.{xor}
use Rattle.list_facts.proofs.TableLemmas.{number_of_two_bits, number_of_three_bits}
use Rattle.arith_templates.specs.Numbers.{bit, number}
use Rattle.arith_templates.specs.Places.{carry, sums, SumsAdd, borrow, differences, last_borrow, DifferencesSubtract, IncrementsAdd, ProductsMultiply}
use Rattle.arith_templates.proofs.NumberLemmas.{number_below, number-append, twice, next_power}

-- ---- sums

-- one place: its bit and the carry out of it
one_sum : (x y c : Bool) → bit (xor (xor x y) c) + 2 * bit (carry x y c) ≡ bit x + bit y + bit c
unfolding mathlib.Core.Bool.xor
one_sum = number_of_three_bits (λ x y c. bit (xor (xor x y) c) + 2 * bit (carry x y c)) (λ x y c. bit x + bit y + bit c) refl

pub sums_add : SumsAdd
sums_add c [] [] same = (omega arith, refl)
sums_add c [] (y ∷ ys) same = (omega arith, omega arith)
sums_add c (x ∷ xs) [] same = (omega arith, omega arith)
sums_add c (x ∷ xs) (y ∷ ys) same =
    let so : length xs ≡ length ys = omega arith in
    let more = sums_add (carry x y c) xs ys so in
    (omega (arith, more.0, one_sum x y c), omega (arith, more.1))

-- ---- differences

-- one place: its bit and the borrow out of it
one_difference : (x y c : Bool) → bit (xor (xor x y) c) + bit y + bit c ≡ bit x + 2 * bit (borrow x y c)
unfolding mathlib.Core.Bool.xor
one_difference =
    number_of_three_bits (λ x y c. bit (xor (xor x y) c) + bit y + bit c) (λ x y c. bit x + 2 * bit (borrow x y c)) refl

size_of_differences : (c : Bool) (xs ys : List Bool) → length xs ≡ length ys → length (differences c xs ys) ≡ length xs
size_of_differences c [] ys same = refl
size_of_differences c (x ∷ xs) [] same = omega arith
size_of_differences c (x ∷ xs) (y ∷ ys) same =
    let so : length xs ≡ length ys = omega arith in
    ap suc (size_of_differences (borrow x y c) xs ys so)

value_of_differences : (c : Bool) (xs ys : List Bool) → length xs ≡ length ys
    → number (differences c xs ys) + number ys + bit c ≡ number xs + 2 ^ length xs * bit (last_borrow c xs ys)
value_of_differences c [] [] same = omega arith
value_of_differences c [] (y ∷ ys) same = omega arith
value_of_differences c (x ∷ xs) [] same = omega arith
value_of_differences c (x ∷ xs) (y ∷ ys) same =
    let so : length xs ≡ length ys = omega arith in
    let last = bit (last_borrow (borrow x y c) xs ys) in
    omega (
      arith,
      value_of_differences (borrow x y c) xs ys so,
      one_difference x y c,
      ap (λ p. p * last) (pow-suc 2 (length xs)),
      twice (2 ^ length xs) last,
    )

absurd_bit : {P : Type 0} → true ≡ false → P
absurd_bit is = cc

-- a borrow of 2^n says that the first number is less
borrowed : (d x y p : ℕ) (l : Bool) → d + y ≡ x + p * bit l → d + 1 ≤ p → (l ≡ true) ↔ (x < y)
borrowed d x y p true is low = (λ so. omega arith, λ less. refl)
borrowed d x y p false is low =
    (λ so. let none : true ≡ false = sym so in absurd_bit none, λ less. let none : ⊥ = omega arith in elim none [ ])

pub differences_subtract : DifferencesSubtract
differences_subtract c xs ys same = record {
  value = value_of_differences c xs ys same;
  size = size_of_differences c xs ys same;
  less = borrowed (number (differences c xs ys)) (number xs) (number ys + bit c) (2 ^ length xs) (last_borrow c xs ys)
      (omega (arith, value_of_differences c xs ys same))
      (let low : number (differences c xs ys) + 1 ≤ 2 ^ length (differences c xs ys) = number_below (differences c xs ys) in
      rw (size_of_differences c xs ys same) at low);
}

-- ---- increments

-- one place: its bit and the carry out of it
one_increment : (x c : Bool) → bit (xor x c) + 2 * bit (x && c) ≡ bit x + bit c
unfolding mathlib.Core.Bool.xor
one_increment = number_of_two_bits (λ x c. bit (xor x c) + 2 * bit (x && c)) (λ x c. bit x + bit c) refl

pub increments_add : IncrementsAdd
increments_add c [] = (omega arith, refl)
increments_add c (x ∷ xs) =
    let more = increments_add (x && c) xs in (omega (arith, more.0, one_increment x c), omega (arith, more.1))

-- ---- products

no_more : (r p : ℕ) → r + p * 0 ≡ r
no_more r p = omega arith

no_product : (p a : ℕ) → p * (0 * a) ≡ 0
no_product p a = grind arith

-- a digit 0 in front of d
product_of_none : (p d a : ℕ) → p * 2 * (d * a) ≡ p * ((0 + 2 * d) * a)
product_of_none p d a = grind arith

-- a digit 1 in front of d
product_of_one : (p d a : ℕ) → p * a + p * 2 * (d * a) ≡ p * ((1 + 2 * d) * a)
product_of_one p d a = grind arith

one_added : (f p d a r : ℕ) → f + p * d ≡ r → f + p * (d + a + 0) ≡ r + p * a
one_added f p d a r is = grind (arith, is)

-- the number a added to the bits from place k on
number_of_added : (r : List Bool) (k : ℕ) (a : List Bool) → length r ≡ length a + k
    → (number (take k r ++ sums false (drop k r) a) ≡ number r + 2 ^ k * number a)
    × (length (take k r ++ sums false (drop k r) a) ≡ length a + (k + 1))
number_of_added r k a same =
    let front = take k r in
    let back = drop k r in
    let low : k ≤ length r = omega arith in
    let sized : length front ≡ k = length-take-le k r low in
    let left : length back ≡ length a = omega (arith, length-drop k r) in
    let added = sums_add false back a left in
    let whole : number front + 2 ^ k * number back ≡ number r =
    ap (λ j. number front + 2 ^ j * number back) (sym sized) ∙ sym (number-append front back) ∙ ap number (take-append-drop k r) in (
      number-append front (sums false back a) ∙ ap (λ j. number front + 2 ^ j * number (sums false back a)) sized
          ∙ ap (λ s. number front + 2 ^ k * s) added.0
          ∙ one_added (number front) (2 ^ k) (number back) (number a) (number r) whole,
      omega (arith, length-append front (sums false back a), sized, added.1, left),
    )

pub products_multiply : ProductsMultiply
products_multiply r k a [] same = (omega (arith, no_product (2 ^ k) (number a)), omega arith)
products_multiply r k a (false ∷ ds) same =
    let longer : length (r ++ false ∷ []) ≡ length r + 1 = length-append r (false ∷ []) in
    let kept : number (r ++ false ∷ []) ≡ number r = number-append r (false ∷ []) ∙ no_more (number r) (2 ^ length r) in
    let more = products_multiply (r ++ false ∷ []) (k + 1) a ds (omega arith) in (
      omega (arith, kept, more.0, ap (λ p. p * (number ds * number a)) (next_power k), product_of_none (2 ^ k) (number ds) (number a)),
      omega (arith, more.1),
    )
products_multiply r k a (true ∷ ds) same =
    let now = number_of_added r k a same in
    let more = products_multiply (take k r ++ sums false (drop k r) a) (k + 1) a ds now.1 in (
      omega (arith, now.0, more.0, ap (λ p. p * (number ds * number a)) (next_power k), product_of_one (2 ^ k) (number ds) (number a)),
      omega (arith, more.1),
    )
