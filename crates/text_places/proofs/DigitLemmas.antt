-- Digits and their values.
use Rattle.std.proofs.Common.{◌≡◌, ℕ, zero, suc, ◌-◌, ◌≤◌, ◌<◌, ◌^◌, true, List, [], ◌∷◌, length, get_or, leb, refl, arith}
use Rattle.std.specs.List.{list_all}
use Rattle.std.specs.Char.{is_ascii_digit, digit_value}
use Rattle.std.specs.Str.Parse.{AllDigits}
use Rattle.std.proofs.lemmas.Bool.{and_parts, and_from, leb-true}
use Rattle.std.proofs.lemmas.Bool.Decides.{nat_tests}

pub digit_in_range : (b : ℕ) → is_ascii_digit b ≡ true → (48 ≤ b) × (b ≤ 57)
digit_in_range b e = let parts = and_parts (leb 48 b) (leb b 57) e in (leb-true 48 b parts.0, leb-true b 57 parts.1)

pub digit_value_small : (b : ℕ) → is_ascii_digit b ≡ true → digit_value b < 10
digit_value_small b e = let range = digit_in_range b e in grind (arith, nat_tests)

pub small_digit_value : (b : ℕ) → digit_value b < 10 → is_ascii_digit b ≡ true
small_digit_value b small = grind (arith, nat_tests)

pub all_digits : (p : List ℕ) → AllDigits 10 p → list_all is_ascii_digit p ≡ true
all_digits [] h = refl
all_digits (b ∷ bs) h = and_from (is_ascii_digit b) (list_all is_ascii_digit bs) (small_digit_value b h.0) (all_digits bs h.1)

pub AllDigits-from_all : (p : List ℕ) → list_all is_ascii_digit p ≡ true → AllDigits 10 p
AllDigits-from_all [] e = tt
AllDigits-from_all (b ∷ bs) e =
    let parts = and_parts (is_ascii_digit b) (list_all is_ascii_digit bs) e in (digit_value_small b parts.0, AllDigits-from_all bs parts.1)

-- one digit of a numeral
pub record IsDigit (b : ℕ) : Type 0 where
  pub low : 48 ≤ b
  pub high : b ≤ 57
  pub value : digit_value b ≡ b - 48

digit_value-in_range : (b : ℕ) → 48 ≤ b → b ≤ 57 → digit_value b ≡ b - 48
digit_value-in_range b low high = grind (arith, nat_tests)

pub digit_at : (digits : List ℕ) (i : ℕ) → AllDigits 10 digits → i < length digits → IsDigit (get_or digits i 0)
digit_at [] i h l = absurd (omega arith)
digit_at (b ∷ bs) zero h l =
    let range = digit_in_range b (small_digit_value b h.0) in record { low = range.0; high = range.1; value = digit_value-in_range b range.0 range.1 }
digit_at (b ∷ bs) (suc i) h l = digit_at bs i h.1 (omega arith)

-- powers of ten with one digit left
pub small_power : (i : ℕ) → i < 9 → 10 ^ i ≤ 100000000
small_power zero h = omega arith
small_power (suc zero) h = omega arith
small_power (suc (suc zero)) h = omega arith
small_power (suc (suc (suc zero))) h = omega arith
small_power (suc (suc (suc (suc zero)))) h = omega arith
small_power (suc (suc (suc (suc (suc zero))))) h = omega arith
small_power (suc (suc (suc (suc (suc (suc zero)))))) h = omega arith
small_power (suc (suc (suc (suc (suc (suc (suc zero))))))) h = omega arith
small_power (suc (suc (suc (suc (suc (suc (suc (suc zero)))))))) h = omega arith
small_power (suc (suc (suc (suc (suc (suc (suc (suc (suc i))))))))) h = absurd (omega arith)
