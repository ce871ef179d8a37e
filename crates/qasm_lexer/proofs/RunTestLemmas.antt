-- Tests of whole words by the runs at their fronts, and numbers as numerals.
use Rattle.std.proofs.Common.{◌≡◌, ℕ, eqb, Bool, true, false, ◌&&◌, List, [], ◌∷◌, length, get_or, sym, ap, ◌∙◌, arith}
use Rattle.std.specs.List.{list_all, prefix_len}
use Rattle.std.specs.Char.{is_ascii_alphabetic, is_ascii_digit}
use Rattle.std.specs.Str.Parse.{AllDigits, IsNumeral}
use Rattle.std.proofs.lemmas.Bool.{false≢true}
use Rattle.text_places.specs.Bytes.{is_name_byte}
use Rattle.text_places.proofs.DigitLemmas.{all_digits, AllDigits-from_all}
use Rattle.text_places.proofs.RunLemmas.{run_is_all}
use Rattle.qasm_lexer.specs.Tokens.{is_identifier, is_number}
use Rattle.qasm_lexer.proofs.TokenLemmas.{letter_goes_on}

pub identifier_by_run : (word : List ℕ) → is_ascii_alphabetic (get_or word 0 0) ≡ true → eqb (prefix_len is_name_byte word) (length word) ≡ is_identifier word
identifier_by_run [] letter = absurd (false≢true letter)
identifier_by_run (b ∷ bs) letter =
    run_is_all is_name_byte (b ∷ bs) ∙ ap (λ (t : Bool). t && list_all is_name_byte bs) (letter_goes_on b letter)
    ∙ sym (ap (λ (t : Bool). t && list_all is_name_byte bs) letter)

pub number_by_run : (word : List ℕ) → eqb (length word) 0 ≡ false → eqb (prefix_len is_ascii_digit word) (length word) ≡ is_number word
number_by_run [] some = absurd (false≢true (sym some))
number_by_run (b ∷ bs) some = run_is_all is_ascii_digit (b ∷ bs)

pub digits_of : (word : List ℕ) → is_number word ≡ true → AllDigits 10 word
digits_of [] e = tt
digits_of (b ∷ bs) e = AllDigits-from_all (b ∷ bs) e

pub numeral_of : (word : List ℕ) → is_number word ≡ true → IsNumeral 10 word
numeral_of [] e = absurd (false≢true e)
numeral_of (b ∷ bs) e = (omega arith, AllDigits-from_all (b ∷ bs) e)

pub number_of_numeral : (word : List ℕ) → IsNumeral 10 word → is_number word ≡ true
number_of_numeral [] h = absurd (omega (arith, h.0))
number_of_numeral (b ∷ bs) h = all_digits (b ∷ bs) h.1
