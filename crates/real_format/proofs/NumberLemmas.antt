-- The number that a word's digits write, which is kept below a limit as it is read.
use Rattle.std.proofs.Common.{◌≡◌, ℕ, ◌+◌, ◌-◌, ◌*◌, ◌<◌, ◌≤◌, Bool, true, false, ◌&&◌, if◌then◌else◌, List, [], ◌∷◌, length, drop, get_or, Option}
use Rattle.std.proofs.Common.{Some, None, refl, sym, ap, ◌∙◌, arith, min, inl, inr}
use Rattle.std.specs.Option.{option_map}
use Rattle.std.specs.List.{list_all}
use Rattle.std.specs.Char.{is_ascii_digit, digit_value}
use Rattle.std.specs.Str.Parse.{digits_value, digits_value_after, AllDigits}
use Rattle.std.proofs.lemmas.List.{drop_more}
use Rattle.std.proofs.lemmas.Str.{digit_value_digit}
use Rattle.std.proofs.lemmas.Bool.{cases_Bool, and_parts}
use Rattle.std.proofs.lemmas.Bool.Decides.{nat_tests}
use Rattle.real_format.specs.inside.Reading.{number_of}

-- the number that the bytes write behind one, and nothing where one of them is no digit
abbrev pub capped_from : ℕ → ℕ → List ℕ → Option ℕ
capped_from most n [] = Some n
capped_from most n (b ∷ bs) =
    if is_ascii_digit b then capped_from most (min (10 * n + (b - 48)) (most + 1)) bs else None

at_byte : (most value : ℕ) (word : List ℕ) (k : ℕ) → k < length word → capped_from most value (drop k word)
    ≡ (if is_ascii_digit (get_or word k 0) then capped_from most (min (10 * value + (get_or word k 0 - 48)) (most + 1)) (drop (k + 1) word) else None)
at_byte most value word k low = ap (capped_from most value) (drop_more word k 0 low)

-- a digit was read
pub one_digit : (most value next : ℕ) (word : List ℕ) (k : ℕ) → k < length word → is_ascii_digit (get_or word k 0) ≡ true
    → next ≡ min (10 * value + (get_or word k 0 - 48)) (most + 1) → capped_from most value (drop k word) ≡ capped_from most 0 word
    → capped_from most next (drop (k + 1) word) ≡ capped_from most 0 word
one_digit most value next word k low digit is so_far =
    ap (λ n. capped_from most n (drop (k + 1) word)) is
    ∙ sym (at_byte most value word k low ∙ ap (λ t. if t then capped_from most (min (10 * value + (get_or word k 0 - 48)) (most + 1)) (drop (k + 1) word)
    else None) digit) ∙ so_far

-- a byte is none
pub no_digit : (most value : ℕ) (word : List ℕ) (k : ℕ) → k < length word → is_ascii_digit (get_or word k 0) ≡ false
    → capped_from most value (drop k word) ≡ capped_from most 0 word → capped_from most 0 word ≡ None
no_digit most value word k low other so_far =
    sym so_far ∙ at_byte most value word k low
    ∙ ap (λ t. if t then capped_from most (min (10 * value + (get_or word k 0 - 48)) (most + 1)) (drop (k + 1) word) else None) other

pub digit_range : (b : ℕ) → is_ascii_digit b ≡ true → (48 ≤ b) × (b ≤ 57) × (digit_value b + 48 ≡ b)
digit_range b e =
    let low : 48 ≤ b = grind (arith, nat_tests) in
    let high : b ≤ 57 = grind (arith, nat_tests) in
    (low, high, digit_value_digit b (low, high))

min_step : (v d most : ℕ) → min (10 * min v (most + 1) + d) (most + 1) ≡ min (v * 10 + d) (most + 1)
min_step v d most = omega arith

capped_value : (most v : ℕ) (bytes : List ℕ) → capped_from most (min v (most + 1)) bytes
    ≡ (if list_all is_ascii_digit bytes then Some (min (digits_value_after 10 v bytes) (most + 1)) else None)
capped_value most v [] = refl
capped_value most v (b ∷ bs) = elim (cases_Bool (is_ascii_digit b)) [
  | inl digit ↦
      let range = digit_range b digit in
      let value : b - 48 ≡ digit_value b = omega (arith, range.2) in
      goes (is_ascii_digit b) (b - 48) (digit_value b) digit value (capped_value most (v * 10 + digit_value b) bs)
  | inr other ↦ stops (is_ascii_digit b) other
]
  where
    goes : (t : Bool) (d e : ℕ) → t ≡ true → d ≡ e → capped_from most (min (v * 10 + e) (most + 1)) bs
        ≡ (if list_all is_ascii_digit bs then Some (min (digits_value_after 10 (v * 10 + e) bs) (most + 1)) else None)
        → (if t then capped_from most (min (10 * min v (most + 1) + d) (most + 1)) bs else None)
        ≡ (if t && list_all is_ascii_digit bs then Some (min (digits_value_after 10 (v * 10 + e) bs) (most + 1)) else None)
    goes t d e holds same rest = rw (holds, same, min_step v e most) rest

    stops : (t : Bool) → t ≡ false → (if t then capped_from most (min (10 * min v (most + 1) + (b - 48)) (most + 1)) bs else None)
        ≡ (if t && list_all is_ascii_digit bs then Some (min (digits_value_after 10 (v * 10 + digit_value b) bs) (most + 1)) else None)
    stops t other = rw other refl

pub capped_number : (most : ℕ) (word : List ℕ) (r : Option ℕ) → (length word ≡ 0 → ⊥) → capped_from most 0 word ≡ r
    → r ≡ option_map (λ n. min n (most + 1)) (number_of word)
capped_number most [] r some e = absurd (some refl)
capped_number most (b ∷ bs) r some e =
    let zero : min 0 (most + 1) ≡ 0 = omega arith in
    sym e ∙ ap (λ n. capped_from most n (b ∷ bs)) (sym zero) ∙ capped_value most 0 (b ∷ bs)
    ∙ mapped (list_all is_ascii_digit (b ∷ bs)) (digits_value 10 (b ∷ bs))
  where
    mapped : (digits : Bool) (n : ℕ)
        → (if digits then Some (min n (most + 1)) else None) ≡ option_map (λ k. min k (most + 1)) (if true && digits then Some n else None)
    mapped true n = refl
    mapped false n = refl

pub AllDigits-from_test : (bytes : List ℕ) → list_all is_ascii_digit bytes ≡ true → AllDigits 10 bytes
AllDigits-from_test [] e = tt
AllDigits-from_test (b ∷ bs) e =
    let parts = and_parts (is_ascii_digit b) (list_all is_ascii_digit bs) e in
    let range = digit_range b parts.0 in
    (omega (arith, range.0, range.1, range.2), AllDigits-from_test bs parts.1)

pub test-from_AllDigits : (bytes : List ℕ) → AllDigits 10 bytes → list_all is_ascii_digit bytes ≡ true
test-from_AllDigits [] h = refl
test-from_AllDigits (b ∷ bs) h = rw (digit_test b h.0, test-from_AllDigits bs h.1) refl
  where
    digit_test : (b : ℕ) → digit_value b < 10 → is_ascii_digit b ≡ true
    digit_test b h = grind (arith, nat_tests, h)
