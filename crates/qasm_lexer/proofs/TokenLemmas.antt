-- The longest word at the front of a text, by its first byte.
use Rattle.std.proofs.Common.{◌≡◌, ℕ, ◌≤◌, eqb, cond, Bool, true, false, ◌||◌, inl, inr, List, [], ◌∷◌, ◌++◌, length, refl, sym, ap, ◌∙◌, arith}
use Rattle.std.specs.Prelude.{codes}
use Rattle.std.specs.List.{list_all}
use Rattle.std.specs.Char.{is_ascii_alphabetic, is_ascii_digit}
use Rattle.std.proofs.lemmas.Bool.{false≢true, and_parts, and_from, or_left}
use Rattle.std.proofs.lemmas.Bool.Decides.{nat_tests}
use Rattle.list_facts.specs.Lists.{IsAmong}
use Rattle.list_facts.proofs.AmongLemmas.{all_among}
use Rattle.text_places.specs.Bytes.{is_letter, is_name_byte}
use Rattle.text_places.proofs.ByteLemmas.{first_of}
use Rattle.qasm_lexer.specs.Tokens.{is_identifier, is_number, fixed_words, IsWord, IsLongest}

-- a front of bytes that pass a test ends before a byte that fails
front_in_word : (p : ℕ → Bool) (front behind word rest : List ℕ) (c : ℕ) → word ++ c ∷ rest ≡ front ++ behind → list_all p front ≡ true → p c ≡ false
    → length front ≤ length word
front_in_word p [] behind word rest c e all stop = omega arith
front_in_word p (b ∷ bs) behind [] rest c e all stop =
    let same : c ≡ b = cc in
    absurd (false≢true (sym stop ∙ ap p same ∙ (and_parts (p b) (list_all p bs) all).0))
front_in_word p (b ∷ bs) behind (w ∷ ws) rest c e all stop =
    let tail : ws ++ c ∷ rest ≡ bs ++ behind = cc in
    let shorter = front_in_word p bs behind ws rest c tail (and_parts (p b) (list_all p bs) all).1 stop in
    omega arith

-- ---- what the first byte says of a word

pub letter_is_no_digit : (b : ℕ) → is_ascii_alphabetic b ≡ true → is_ascii_digit b ≡ false
letter_is_no_digit b e = grind (arith, nat_tests)

pub letter_goes_on : (b : ℕ) → is_ascii_alphabetic b ≡ true → is_name_byte b ≡ true
letter_goes_on b e = or_left (is_letter b) (is_ascii_digit b) (or_left (is_ascii_alphabetic b) (eqb b 95) e)

-- a byte of a number, or of `2.0`
abbrev is_number_byte : ℕ → Bool
is_number_byte b = is_ascii_digit b || eqb b 46

digit_goes_on : (b : ℕ) → is_ascii_digit b ≡ true → is_number_byte b ≡ true
digit_goes_on b e = rw e refl

pub fixed_begins : (word : List ℕ) → IsAmong word fixed_words → is_ascii_alphabetic (first_of word) ≡ false
fixed_begins word among =
    all_among (λ w. is_ascii_alphabetic (first_of w) ≡ false) fixed_words (refl, (refl, (refl, (refl, (refl, (refl, tt)))))) word among

-- the length of a word that is always spelled the same, by its first byte
abbrev width : ℕ → ℕ
width b = cond (eqb b 50) 3 (cond (eqb b 34) 12 1)

fixed_width : (word : List ℕ) → IsAmong word fixed_words → length word ≡ width (first_of word)
fixed_width word among =
    all_among (λ w. length w ≡ width (first_of w)) fixed_words (refl, (refl, (refl, (refl, (refl, (refl, tt)))))) word among

-- only `2.0` begins with a digit
pub fixed_digit : (word : List ℕ) → IsAmong word fixed_words → is_ascii_digit (first_of word) ≡ true → word ≡ codes "2.0"
fixed_digit word among =
    all_among (λ w. is_ascii_digit (first_of w) ≡ true → w ≡ codes "2.0") fixed_words (
      λ d. refl,
      (
        λ d. absurd (false≢true d),
        (
          λ d. absurd (false≢true d),
          (
            λ d. absurd (false≢true d),
            (λ d. absurd (false≢true d), (λ d. absurd (false≢true d), tt)),
          ),
        ),
      ),
    ) word among

fixed_number : (word : List ℕ) → IsAmong word fixed_words → is_ascii_digit (first_of word) ≡ true → list_all is_number_byte word ≡ true
fixed_number word among digit = ap (list_all is_number_byte) (fixed_digit word among digit)

all_number_bytes : (word : List ℕ) → list_all is_ascii_digit word ≡ true → list_all is_number_byte word ≡ true
all_number_bytes [] all = refl
all_number_bytes (b ∷ bs) all =
    let parts = and_parts (is_ascii_digit b) (list_all is_ascii_digit bs) all in
    and_from (is_number_byte b) (list_all is_number_byte bs) (digit_goes_on b parts.0) (all_number_bytes bs parts.1)

-- a word that begins with a letter is an identifier
pub word_by_letter : (b : ℕ) (bs : List ℕ) → IsWord (b ∷ bs) → is_ascii_alphabetic b ≡ true → list_all is_name_byte (b ∷ bs) ≡ true
word_by_letter b bs (inl e) letter =
    let parts = and_parts (is_ascii_alphabetic b) (list_all is_name_byte bs) e in
    and_from (is_name_byte b) (list_all is_name_byte bs) (letter_goes_on b letter) parts.1
word_by_letter b bs (inr (inl e)) letter =
    absurd (false≢true (sym (letter_is_no_digit b letter) ∙ (and_parts (is_ascii_digit b) (list_all is_ascii_digit bs) e).0))
word_by_letter b bs (inr (inr fixed)) letter = absurd (false≢true (sym (fixed_begins (b ∷ bs) fixed) ∙ letter))

-- a word that begins with a digit is a number or `2.0`
word_by_digit : (b : ℕ) (bs : List ℕ) → IsWord (b ∷ bs) → is_ascii_digit b ≡ true → list_all is_number_byte (b ∷ bs) ≡ true
word_by_digit b bs (inl e) digit =
    absurd (false≢true (sym (letter_is_no_digit b (and_parts (is_ascii_alphabetic b) (list_all is_name_byte bs) e).0) ∙ digit))
word_by_digit b bs (inr (inl e)) digit = all_number_bytes (b ∷ bs) e
word_by_digit b bs (inr (inr fixed)) digit = fixed_number (b ∷ bs) fixed digit

-- any other word is always spelled the same
word_by_sign : (b : ℕ) (bs : List ℕ) → IsWord (b ∷ bs) → is_ascii_alphabetic b ≡ false → is_ascii_digit b ≡ false → length (b ∷ bs) ≡ width b
word_by_sign b bs (inl e) no_letter no_digit =
    absurd (false≢true (sym no_letter ∙ (and_parts (is_ascii_alphabetic b) (list_all is_name_byte bs) e).0))
word_by_sign b bs (inr (inl e)) no_letter no_digit =
    absurd (false≢true (sym no_digit ∙ (and_parts (is_ascii_digit b) (list_all is_ascii_digit bs) e).0))
word_by_sign b bs (inr (inr fixed)) no_letter no_digit = fixed_width (b ∷ bs) fixed

-- ---- the longest word

name_is_longest : (word rest : List ℕ) (c : ℕ) (front behind : List ℕ) → is_identifier word ≡ true → is_name_byte c ≡ false
    → word ++ c ∷ rest ≡ front ++ behind → IsWord front → length front ≤ length word
name_is_longest word rest c [] behind spelled stop e h = omega arith
name_is_longest [] rest c (b ∷ bs) behind spelled stop e h = absurd (false≢true spelled)
name_is_longest (w ∷ ws) rest c (b ∷ bs) behind spelled stop e h =
    let same : w ≡ b = cc in
    let letter = sym (ap is_ascii_alphabetic same) ∙ (and_parts (is_ascii_alphabetic w) (list_all is_name_byte ws) spelled).0 in
    front_in_word is_name_byte (b ∷ bs) behind (w ∷ ws) rest c e (word_by_letter b bs h letter) stop

pub longest_name : (word rest : List ℕ) (c : ℕ) → is_identifier word ≡ true → is_name_byte c ≡ false → IsLongest (word ++ c ∷ rest) word (c ∷ rest)
longest_name word rest c spelled stop = record {
  cut = refl;
  spelled = inl spelled;
  longest = λ front behind e h. name_is_longest word rest c front behind spelled stop e h;
}

-- the word of digits, or `2.0`
number_is_longest : (word rest : List ℕ) (c : ℕ) (front behind : List ℕ) → is_ascii_digit (first_of word) ≡ true → is_number_byte c ≡ false
    → word ++ c ∷ rest ≡ front ++ behind → IsWord front → length front ≤ length word
number_is_longest word rest c [] behind begins stop e h = omega arith
number_is_longest [] rest c (b ∷ bs) behind begins stop e h = absurd (false≢true begins)
number_is_longest (w ∷ ws) rest c (b ∷ bs) behind begins stop e h =
    let same : w ≡ b = cc in
    front_in_word is_number_byte (b ∷ bs) behind (w ∷ ws) rest c e (word_by_digit b bs h (sym (ap is_ascii_digit same) ∙ begins)) stop

number_begins : (word : List ℕ) → is_number word ≡ true → is_ascii_digit (first_of word) ≡ true
number_begins [] e = absurd (false≢true e)
number_begins (b ∷ bs) e = (and_parts (is_ascii_digit b) (list_all is_ascii_digit bs) e).0

pub longest_number : (word rest : List ℕ) (c : ℕ) → is_number word ≡ true → is_number_byte c ≡ false → IsLongest (word ++ c ∷ rest) word (c ∷ rest)
longest_number word rest c spelled stop = record {
  cut = refl;
  spelled = inr (inl spelled);
  longest = λ front behind e h. number_is_longest word rest c front behind (number_begins word spelled) stop e h;
}

pub longest_version : (word rest : List ℕ) (c : ℕ) → IsAmong word fixed_words → is_ascii_digit (first_of word) ≡ true → is_number_byte c ≡ false
    → IsLongest (word ++ c ∷ rest) word (c ∷ rest)
longest_version word rest c fixed begins stop = record {
  cut = refl;
  spelled = inr (inr fixed);
  longest = λ front behind e h. number_is_longest word rest c front behind begins stop e h;
}

sign_is_longest : (b : ℕ) (bs rest : List ℕ) (front behind : List ℕ) → length (b ∷ bs) ≡ width b → is_ascii_alphabetic b ≡ false
    → is_ascii_digit b ≡ false → (b ∷ bs) ++ rest ≡ front ++ behind → IsWord front → length front ≤ length (b ∷ bs)
sign_is_longest b bs rest [] behind wide no_letter no_digit e h = omega arith
sign_is_longest b bs rest (f ∷ fs) behind wide no_letter no_digit e h =
    let same : b ≡ f = cc in
    let long = word_by_sign f fs h (sym (ap is_ascii_alphabetic same) ∙ no_letter) (sym (ap is_ascii_digit same) ∙ no_digit) in
    let equal : length (f ∷ fs) ≡ length (b ∷ bs) = long ∙ ap width (sym same) ∙ sym wide in
    omega arith

pub longest_sign : (b : ℕ) (bs rest : List ℕ) → IsAmong (b ∷ bs) fixed_words → is_ascii_alphabetic b ≡ false → is_ascii_digit b ≡ false
    → IsLongest ((b ∷ bs) ++ rest) (b ∷ bs) rest
longest_sign b bs rest fixed no_letter no_digit = record {
  cut = refl;
  spelled = inr (inr fixed);
  longest = λ front behind e h. sign_is_longest b bs rest front behind (fixed_width (b ∷ bs) fixed) no_letter no_digit e h;
}
