-- Kinds of bytes that exclude one another, and the first byte of a text.
use Rattle.std.proofs.Common.{◌≡◌, ℕ, ◌≤◌, ◌<◌, true, List, ◌++◌, length, get_or, ap, sym, ◌∙◌, arith}
use Rattle.std.specs.Char.{is_ascii_digit}
use Rattle.std.proofs.lemmas.Bool.Decides.{nat_tests}
use Rattle.std.proofs.lemmas.List.{get_or_append_left}
use Rattle.text_places.specs.Bytes.{is_blank, is_letter}
use Rattle.text_places.proofs.DigitLemmas.{digit_in_range}

pub letter_is_high : (b : ℕ) → is_letter b ≡ true → 65 ≤ b
letter_is_high b e = grind (arith, nat_tests)

pub blank_is_low : (b : ℕ) → is_blank b ≡ true → b ≤ 32
blank_is_low b e = grind (arith, nat_tests)

pub no_letter_digit : (b : ℕ) → is_letter b ≡ true → is_ascii_digit b ≡ true → ⊥
no_letter_digit b letter digit =
    let high = letter_is_high b letter in let range = digit_in_range b digit in absurd (omega arith)

-- the first byte, or 0
abbrev pub first_of : List ℕ → ℕ
first_of bytes = get_or bytes 0 0

-- a front that is not empty begins as the text does
pub same_first : (text front behind : List ℕ) → text ≡ front ++ behind → 0 < length front → first_of front ≡ first_of text
same_first text front behind cut some = sym (ap first_of cut ∙ get_or_append_left front behind 0 0 some)
