-- Numbers as lists of bits, the least bit first.
use Rattle.std.specs.Prelude.{◌≡◌, ℕ, zero, suc, ◌+◌, ◌*◌, ◌^◌, ◌≤◌, Bool, true, false, List, [], ◌∷◌, ◌++◌, length, map, filter, sum}
use Rattle.std.specs.List.{range_with_len}
use Rattle.list_facts.specs.Bits.{bit_of}

abbrev pub bit : Bool → ℕ
bit true = 1
bit false = 0

-- the number of a list of bits
abbrev pub number : List Bool → ℕ
number [] = 0
number (b ∷ bs) = bit b + 2 * number bs

-- the binary digits of the next number
abbrev pub next_digits : List Bool → List Bool
next_digits [] = true ∷ []
next_digits (false ∷ ds) = true ∷ ds
next_digits (true ∷ ds) = false ∷ next_digits ds

-- the binary digits of a number, the least first and without a 0 in front: those of 0 are none
abbrev pub digits_of : ℕ → List Bool
digits_of zero = []
digits_of (suc n) = next_digits (digits_of n)

-- the places that hold 1
abbrev pub places_of : List Bool → List ℕ
places_of bits = filter (bit_of bits) (range_with_len 0 (length bits))

-- The number of a list of bits is the sum of 2^i over the places i that hold 1.
abbrev pub NumbersAreSums : Type 0
NumbersAreSums = (bits : List Bool) → number bits ≡ sum (map (λ i. 2 ^ i) (places_of bits))

-- The digits of a number above 0 are those of a list with its number, whose last bit is 1.
pub record AreDigits (n : ℕ) (digits : List Bool) : Type 0 where
  pub value : number digits ≡ n
  pub before : List Bool
  pub last : digits ≡ before ++ true ∷ []

-- Each number above 0 has the digits of its binary notation.
abbrev pub DigitsAreBinary : Type 0
DigitsAreBinary = (n : ℕ) → 1 ≤ n → AreDigits n (digits_of n)
