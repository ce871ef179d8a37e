-- What a token's first byte says of the token.
use Rattle.std.proofs.Common.{◌≡◌, ◌≢◌, ℕ, ◌≤◌, ◌<◌, true, false, ◌||◌, cond, List, [], ◌∷◌, length, Option, Some, None, refl, ap, sym, ◌∙◌, subst, ◌⊎◌, ⊎_elim}
use Rattle.std.proofs.Common.{arith}
use Rattle.std.specs.Prelude.{nat_le, ◌==◌}
use Rattle.std.specs.List.{list_all}
use Rattle.std.specs.Char.{is_ascii_digit}
use Rattle.std.specs.Str.Parse.{IsNumeral, digits_value}
use Rattle.std.proofs.lemmas.Bool.{false≢true, and_parts, leb-true, leb-false, eqb-false, and_from, or_left, or_parts, cond-true, cond-false}
use Rattle.std.proofs.lemmas.Bool.{false_from_ne_true}
use Rattle.text_places.specs.Bytes.{is_blank, is_letter, is_name_byte}
use Rattle.text_places.proofs.ByteLemmas.{letter_is_high, blank_is_low, no_letter_digit, first_of}
use Rattle.text_places.proofs.DigitLemmas.{digit_in_range, small_digit_value, all_digits}
use Rattle.revs_lexer.specs.Spelling.{word_text, sign_text, is_identifier, Spells}
use Rattle.revs_lexer.specs.declared.word.Word.{Word}
use Rattle.revs_lexer.specs.declared.word.Word.TheVariants as words
use Rattle.revs_lexer.specs.declared.sign.Sign.{Sign}
use Rattle.revs_lexer.specs.declared.sign.Sign.TheVariants as signs
use Rattle.revs_lexer.specs.declared.token.Tok.{Tok}
use Rattle.revs_lexer.specs.declared.token.Tok.TheVariants as toks
use Rattle.revs_lexer.proofs.TableLemmas.{word_of, sign_of, word_of-name, word_text_is_short, sign_text_begins, some_sign_text}

identifier_begins : (p : List ℕ) → is_identifier p ≡ true → is_letter (first_of p) ≡ true
identifier_begins [] e = absurd (false≢true e)
identifier_begins (b ∷ bs) e = (and_parts (is_letter b) (list_all is_name_byte bs) e).0

pub identifier_goes_on : (p : List ℕ) → is_identifier p ≡ true → list_all is_name_byte p ≡ true
identifier_goes_on [] e = absurd (false≢true e)
identifier_goes_on (b ∷ bs) e =
    let parts = and_parts (is_letter b) (list_all is_name_byte bs) e in
    and_from (is_name_byte b) (list_all is_name_byte bs) (or_left (is_letter b) (is_ascii_digit b) parts.0) parts.1

numeral_begins : (p : List ℕ) → IsNumeral 10 p → is_ascii_digit (first_of p) ≡ true
numeral_begins [] h = absurd (omega (arith, h.0))
numeral_begins (b ∷ bs) h = small_digit_value b h.1.0

word_begins : (w : Word) → is_identifier (word_text w) ≡ true
word_begins w = (and_parts (nat_le (length (word_text w)) 64) (is_identifier (word_text w)) (word_text_is_short w)).1

pub word_is_short : (w : Word) → length (word_text w) ≤ 64
word_is_short w =
    leb-true (length (word_text w)) 64 (and_parts (nat_le (length (word_text w)) 64) (is_identifier (word_text w)) (word_text_is_short w)).0

-- what a sign begins with is no letter, no digit, no blank and no slash
record BeginsSign (b : ℕ) : Type 0 where
  no_letter : is_letter b ≡ false
  no_digit : is_ascii_digit b ≡ false
  no_blank : is_blank b ≡ false
  no_slash : b ≢ 47

sign_begins : (s : Sign) → BeginsSign (first_of (sign_text s))
sign_begins s =
    let b = first_of (sign_text s) in
    let all = or_parts (is_letter b || is_ascii_digit b || nat_le b 32) (b == 47) (sign_text_begins s) in
    let three = or_parts (is_letter b || is_ascii_digit b) (nat_le b 32) all.0 in
    let two = or_parts (is_letter b) (is_ascii_digit b) three.0 in
    let above : 32 < b = leb-false b 32 three.1 in
    record {
      no_letter = two.0;
      no_digit = two.1;
      no_blank = false_from_ne_true (is_blank b) (λ blank. let low : b ≤ 32 = blank_is_low b blank in absurd (omega arith));
      no_slash = eqb-false b 47 all.1;
    }

-- a spelled token has a byte
pub some_spelled : (p : List ℕ) (t : Tok) → Spells p t → 0 < length p
some_spelled [] (toks.Name name) h = absurd (false≢true h.0)
some_spelled [] (toks.Number n) h = h.0.0
some_spelled [] (toks.Word w) h = absurd (false≢true (subst (λ (p : List ℕ). is_identifier p ≡ true) (sym h) (word_begins w)))
some_spelled [] (toks.Sign s) h = subst (λ (p : List ℕ). 0 < length p) (sym h) (some_sign_text s)
some_spelled [] toks.End h = absurd h
some_spelled (b ∷ bs) t h = omega arith

-- A token that begins with a letter is an identifier, one that begins with a digit is digits, and any other is a sign.
pub spelled_by_letter : (p : List ℕ) (t : Tok) → Spells p t → is_letter (first_of p) ≡ true → is_identifier p ≡ true
spelled_by_letter p (toks.Name name) h letter = h.0
spelled_by_letter p (toks.Number n) h letter = absurd (no_letter_digit (first_of p) letter (numeral_begins p h.0))
spelled_by_letter p (toks.Word w) h letter = subst (λ (q : List ℕ). is_identifier q ≡ true) (sym h) (word_begins w)
spelled_by_letter p (toks.Sign s) h letter =
    absurd (false≢true (sym (sign_begins s).no_letter ∙ ap (λ q. is_letter (first_of q)) (sym h) ∙ letter))
spelled_by_letter p toks.End h letter = absurd h

pub spelled_by_digit : (p : List ℕ) (t : Tok) → Spells p t → is_ascii_digit (first_of p) ≡ true → list_all is_ascii_digit p ≡ true
spelled_by_digit p (toks.Name name) h digit = absurd (no_letter_digit (first_of p) (identifier_begins p h.0) digit)
spelled_by_digit p (toks.Number n) h digit = all_digits p h.0.1
spelled_by_digit p (toks.Word w) h digit =
    absurd (no_letter_digit (first_of p) (identifier_begins p (subst (λ (q : List ℕ). is_identifier q ≡ true) (sym h) (word_begins w))) digit)
spelled_by_digit p (toks.Sign s) h digit =
    absurd (false≢true (sym (sign_begins s).no_digit ∙ ap (λ q. is_ascii_digit (first_of q)) (sym h) ∙ digit))
spelled_by_digit p toks.End h digit = absurd h

pub spelled_by_other : (p : List ℕ) (t : Tok) → Spells p t → is_letter (first_of p) ≡ false → is_ascii_digit (first_of p) ≡ false → (s : Sign)
    × (p ≡ sign_text s)
spelled_by_other p (toks.Name name) h letter digit = absurd (false≢true (sym letter ∙ identifier_begins p h.0))
spelled_by_other p (toks.Number n) h letter digit = absurd (false≢true (sym digit ∙ numeral_begins p h.0))
spelled_by_other p (toks.Word w) h letter digit =
    absurd (false≢true (sym letter ∙ identifier_begins p (subst (λ (q : List ℕ). is_identifier q ≡ true) (sym h) (word_begins w))))
spelled_by_other p (toks.Sign s) h letter digit = (s, h)
spelled_by_other p toks.End h letter digit = absurd h

-- No token begins as a blank or a comment does.
pub spelled_by_blank : (p : List ℕ) (t : Tok) → Spells p t → (is_blank (first_of p) ≡ true) ⊎ (first_of p ≡ 47) → ⊥
spelled_by_blank p t h gap =
    let low : first_of p ≤ 47 = ⊎_elim (λ (blank : is_blank (first_of p) ≡ true). let l : first_of p ≤ 32 = blank_is_low (first_of p) blank in omega arith)
    (λ (slash : first_of p ≡ 47). omega arith) gap in
    let letter : is_letter (first_of p) ≡ false = false_from_ne_true (is_letter (first_of p))
    (λ e. let high : 65 ≤ first_of p = letter_is_high (first_of p) e in absurd (omega arith)) in
    let digit : is_ascii_digit (first_of p) ≡ false = false_from_ne_true (is_ascii_digit (first_of p))
    (λ e. let range = digit_in_range (first_of p) e in absurd (omega arith)) in
    let (s, same) = spelled_by_other p t h letter digit in
    let begins = sign_begins s in
    ⊎_elim
    (λ (blank : is_blank (first_of p) ≡ true). false≢true (sym begins.no_blank ∙ ap (λ q. is_blank (first_of q)) (sym same) ∙ blank))
    (λ (slash : first_of p ≡ 47). begins.no_slash (ap first_of (sym same) ∙ slash))
    gap

-- the one token that bytes spell, if they spell one
abbrev word_or_name : Option Word → List ℕ → Tok
word_or_name (Some w) bytes = toks.Word w
word_or_name None bytes = toks.Name bytes

abbrev sign_or_end : Option Sign → Tok
sign_or_end (Some s) = toks.Sign s
sign_or_end None = toks.End

abbrev tok_of : List ℕ → Tok
tok_of bytes =
    cond (is_letter (first_of bytes)) (word_or_name (word_of bytes) bytes)
    (cond (is_ascii_digit (first_of bytes)) (toks.Number (digits_value 10 bytes)) (sign_or_end (sign_of bytes)))

tok_of-word_text : (w : Word) → tok_of (word_text w) ≡ toks.Word w
tok_of-word_text words.Main = refl
tok_of-word_text _ = refl

tok_of-sign_text : (s : Sign) → tok_of (sign_text s) ≡ toks.Sign s
tok_of-sign_text signs.OpenRound = refl
tok_of-sign_text _ = refl

tok_of-spelled : (p : List ℕ) (t : Tok) → Spells p t → tok_of p ≡ t
tok_of-spelled p (toks.Name name) h =
    cond-true (is_letter (first_of p)) _ _ (identifier_begins p h.0) ∙ ap (λ o. word_or_name o p) (word_of-name p h.1) ∙ ap toks.Name (sym h.2)
tok_of-spelled p (toks.Number n) h =
    let digit = numeral_begins p h.0 in
    cond-false (is_letter (first_of p)) _ _ (false_from_ne_true (is_letter (first_of p)) (λ letter. no_letter_digit (first_of p) letter digit))
    ∙ cond-true (is_ascii_digit (first_of p)) _ _ digit ∙ ap toks.Number (sym h.1)
tok_of-spelled p (toks.Word w) h = ap tok_of h ∙ tok_of-word_text w
tok_of-spelled p (toks.Sign s) h = ap tok_of h ∙ tok_of-sign_text s
tok_of-spelled p toks.End h = absurd h

-- Bytes spell one token at most.
pub same_spelled : (p : List ℕ) (t u : Tok) → Spells p t → Spells p u → t ≡ u
same_spelled p t u h k = sym (tok_of-spelled p t h) ∙ tok_of-spelled p u k

word_has_six : (w : Word) → nat_le (length (word_text w)) 6 ≡ true
word_has_six words.Main = refl
word_has_six _ = refl

-- no word has more than six bytes
pub long_is_no_word : (bytes : List ℕ) → 7 ≤ length bytes → word_of bytes ≡ None
long_is_no_word bytes h = word_of-name bytes (λ w e. absurd (omega (arith, h, ap (length {A = ℕ}) e, leb-true _ _ (word_has_six w))))
