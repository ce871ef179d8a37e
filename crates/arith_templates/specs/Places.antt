-- Sums, differences, increments and products, place by place.
use Rattle.std.specs.Prelude.{◌≡◌, ℕ, ◌+◌, ◌*◌, ◌^◌, ◌<◌, ◌↔◌, Bool, true, false, ◌&&◌, List, [], ◌∷◌, ◌++◌, length, take, drop, IsTrue}
use Rattle.std.specs.Bool.{xor}
use Rattle.arith_templates.specs.Numbers.{bit, number}

-- ---- sums

-- the carry out of a place: both bits are set, or they differ and a carry comes in
abbrev pub carry : Bool → Bool → Bool → Bool
carry x y c = xor (x && y) (c && xor x y)

-- the sum of two numbers of as many bits, into whose first place a carry comes: its last bit is the
-- last carry
abbrev pub sums : Bool → List Bool → List Bool → List Bool
sums c (x ∷ xs) (y ∷ ys) = xor (xor x y) c ∷ sums (carry x y c) xs ys
sums c [] ys = c ∷ []
sums c (x ∷ xs) [] = c ∷ []

-- Sums add.
abbrev pub SumsAdd : Type 0
SumsAdd = (c : Bool) (xs ys : List Bool) → length xs ≡ length ys
    → (number (sums c xs ys) ≡ number xs + number ys + bit c)
    × (length (sums c xs ys) ≡ length xs + 1)

-- ---- differences

-- the borrow out of a place: only the second bit is set, or a borrow comes in and the bits are the
-- same
abbrev pub borrow : Bool → Bool → Bool → Bool
borrow x y c = xor (xor true x && y) (c && xor (xor true x) y)

-- the difference of two numbers of as many bits, from whose first place is borrowed
abbrev pub differences : Bool → List Bool → List Bool → List Bool
differences c (x ∷ xs) (y ∷ ys) = xor (xor x y) c ∷ differences (borrow x y c) xs ys
differences c [] ys = []
differences c (x ∷ xs) [] = []

-- the borrow out of the last place
abbrev pub last_borrow : Bool → List Bool → List Bool → Bool
last_borrow c (x ∷ xs) (y ∷ ys) = last_borrow (borrow x y c) xs ys
last_borrow c [] ys = c
last_borrow c (x ∷ xs) [] = c

-- What the difference of two numbers of as many bits is.
pub record Subtracts (c : Bool) (xs ys : List Bool) : Type 0 where
  pub value : number (differences c xs ys) + number ys + bit c
      ≡ number xs + 2 ^ length xs * bit (last_borrow c xs ys)
  pub size : length (differences c xs ys) ≡ length xs
  pub less : IsTrue (last_borrow c xs ys) ↔ (number xs < number ys + bit c)

-- Differences subtract, and the last borrow says whether the first number is less.
abbrev pub DifferencesSubtract : Type 0
DifferencesSubtract =
    (c : Bool) (xs ys : List Bool) → length xs ≡ length ys → Subtracts c xs ys

-- ---- increments

-- a number and a carry into its first place: the last bit is the last carry
abbrev pub increments : Bool → List Bool → List Bool
increments c [] = c ∷ []
increments c (x ∷ xs) = xor x c ∷ increments (x && c) xs

-- Increments add their carry.
abbrev pub IncrementsAdd : Type 0
IncrementsAdd = (c : Bool) (xs : List Bool)
    → (number (increments c xs) ≡ number xs + bit c)
    × (length (increments c xs) ≡ length xs + 1)

-- ---- products

-- Shift and add: r and, for each binary digit from place k on that is 1, the number a shifted to
-- its place.
abbrev pub products : List Bool → ℕ → List Bool → List Bool → List Bool
products r k a [] = r
products r k a (false ∷ ds) = products (r ++ false ∷ []) (k + 1) a ds
products r k a (true ∷ ds) = products (take k r ++ sums false (drop k r) a) (k + 1) a ds

-- Products multiply by the number of the digits.
abbrev pub ProductsMultiply : Type 0
ProductsMultiply = (r : List Bool) (k : ℕ) (a digits : List Bool) → length r ≡ length a + k
    → (number (products r k a digits) ≡ number r + 2 ^ k * (number digits * number a))
    × (length (products r k a digits) ≡ length a + (k + length digits))
