-- Tokens of built texts by number, and tokens that are good.
use Rattle.std.proofs.Common.{get_or, ◌≡◌, ℕ, zero, suc, ◌*◌, ◌≤◌, ◌<◌, Bool, true, false, ◌&&◌, leb, List, [], ◌∷◌, ◌++◌, length, Option, Some, None}
use Rattle.std.proofs.Common.{refl, ap, sym, subst, ◌∙◌, arith}
use Rattle.std.specs.Prelude.{decimal}
use Rattle.std.specs.Char.{is_ascii_digit}
use Rattle.std.specs.List.{list_all}
use Rattle.std.proofs.lemmas.Bool.{and_from, and_parts, or_right, leb-true, false≢true}
use Rattle.std.proofs.lemmas.Fmt.{decimal_is_IsNumeral, length-decimal-le}
use Rattle.std.proofs.lemmas.List.{append_assoc, length-append}
use Rattle.revc_base.specs.declared.place.Place.{Place}
use Rattle.text_places.specs.Bytes.{is_letter, is_name_byte}
use Rattle.text_places.specs.Places.{place_behind, place_after}
use Rattle.text_places.proofs.DigitLemmas.{all_digits}
use Rattle.revs_lexer.specs.Spelling.{word_text, sign_text, is_identifier}
use Rattle.revs_lexer.specs.declared.word.Word.{Word}
use Rattle.revs_lexer.specs.declared.word.Word.TheVariants as words
use Rattle.revs_lexer.specs.declared.sign.Sign.{Sign}
use Rattle.revs_lexer.specs.declared.sign.Sign.TheVariants as signs
use Rattle.revs_lexer.specs.declared.token.Tok.{Tok}
use Rattle.revs_lexer.specs.declared.token.Tok.TheVariants as toks
use Rattle.revs_lexer.specs.declared.token.Token.{Token}
use Rattle.revs_lexer.proofs.TableLemmas.{word_of, word_of-none}
use Rattle.revs_lexer.proofs.FirstByteLemmas.{word_is_short}
use Rattle.built_texts.specs.Pieces.{Piece, gap, tok, spelling, text_of, toks_of, tokens_at, IsGood, AreGood}
use Rattle.built_texts.specs.Ways.{placed, shifted}

-- ---- places by number

-- the place of each token of a text that begins here, by its number
abbrev pub token_place : Place → List Piece → ℕ → Place
token_place at [] k = at
token_place at (gap b ∷ ps) k = token_place (place_behind at b) ps k
token_place at (tok t ∷ ps) zero = at
token_place at (tok t ∷ ps) (suc k) = token_place (place_after at (spelling t)) ps k

pub tokens_placed : (at : Place) (ps : List Piece) → tokens_at at ps ≡ placed (token_place at ps) (toks_of ps)
tokens_placed at [] = refl
tokens_placed at (gap b ∷ ps) = tokens_placed (place_behind at b) ps
tokens_placed at (tok t ∷ ps) =
    ap (λ (ts : List Token). record { tok = t; at = at } ∷ ts) (tokens_placed (place_after at (spelling t)) ps)

pub placed-append : (p : ℕ → Place) (ts us : List Tok) → placed p (ts ++ us) ≡ placed p ts ++ placed (shifted (length ts) p) us
placed-append p [] us = refl
placed-append p (t ∷ ts) us = ap (λ (vs : List Token). record { tok = t; at = p 0 } ∷ vs) (placed-append (λ k. p (suc k)) ts us)

-- pieces behind other pieces
pub text_of-append : (ps qs : List Piece) → text_of (ps ++ qs) ≡ text_of ps ++ text_of qs
text_of-append [] qs = refl
text_of-append (gap b ∷ ps) qs = ap (λ (bs : List ℕ). b ∷ bs) (text_of-append ps qs)
text_of-append (tok t ∷ ps) qs = ap (λ (bs : List ℕ). spelling t ++ bs) (text_of-append ps qs) ∙ sym (append_assoc (spelling t) (text_of ps) (text_of qs))

pub toks_of-append : (ps qs : List Piece) → toks_of (ps ++ qs) ≡ toks_of ps ++ toks_of qs
toks_of-append [] qs = refl
toks_of-append (gap b ∷ ps) qs = toks_of-append ps qs
toks_of-append (tok t ∷ ps) qs = ap (λ (ts : List Tok). t ∷ ts) (toks_of-append ps qs)

-- ---- good tokens

pub good_word : (w : Word) → IsGood (toks.Word w)
good_word w = record { spells = refl; within = tt }

pub good_sign : (s : Sign) → IsGood (toks.Sign s)
good_sign s = record { spells = refl; within = tt }

pub good_number : (n : ℕ) → n ≤ 9999 → IsGood (toks.Number n)
good_number n le =
    let h = decimal_is_IsNumeral n (omega arith) in
    record { spells = (h.0, sym h.1); within = length-decimal-le 4 n (omega arith) (omega arith) (omega arith) }

-- a name that is no word
pub good_name : (text : List ℕ) → is_identifier text ≡ true → word_of text ≡ None → length text ≤ 64 → IsGood (toks.Name text)
good_name text e none le = record { spells = (e, word_of-none text none, refl); within = le }

-- tokens of which it is computed that they are good
abbrev has_none : Option Word → Bool
has_none (Some w) = false
has_none None = true

none_of : (o : Option Word) → has_none o ≡ true → o ≡ None
none_of (Some w) e = absurd (false≢true e)
none_of None e = refl

abbrev pub is_plain : Tok → Bool
is_plain (toks.Name text) = is_identifier text && (has_none (word_of text) && leb (length text) 64)
is_plain (toks.Word w) = true
is_plain (toks.Sign s) = true
is_plain (toks.Number n) = leb n 9999
is_plain toks.End = false

pub plain_good : (t : Tok) → is_plain t ≡ true → IsGood t
plain_good (toks.Name text) e =
    let h = and_parts (is_identifier text) (has_none (word_of text) && leb (length text) 64) e in
    let k = and_parts (has_none (word_of text)) (leb (length text) 64) h.1 in
    good_name text h.0 (none_of (word_of text) k.0) (leb-true (length text) 64 k.1)
plain_good (toks.Word w) e = good_word w
plain_good (toks.Sign s) e = good_sign s
plain_good (toks.Number n) e = good_number n (leb-true n 9999 e)
plain_good toks.End e = absurd (false≢true e)

pub goods : (ts us : List Tok) → list_all is_plain ts ≡ true → AreGood us → AreGood (ts ++ us)
goods [] us e h = h
goods (t ∷ ts) us e h = let k = and_parts (is_plain t) (list_all is_plain ts) e in (plain_good t k.0, goods ts us k.1 h)

pub good_line : (line ps : List Piece) → list_all is_plain (toks_of line) ≡ true → AreGood (toks_of ps) → AreGood (toks_of (line ++ ps))
good_line line ps e h = subst AreGood (sym (toks_of-append line ps)) (goods (toks_of line) (toks_of ps) e h)

-- a letter with a number behind it
abbrev pub lettered : ℕ → ℕ → List ℕ
lettered b i = b ∷ decimal i

digits_in_names : (ds : List ℕ) → list_all is_ascii_digit ds ≡ true → list_all is_name_byte ds ≡ true
digits_in_names [] e = refl
digits_in_names (d ∷ ds) e =
    let h = and_parts (is_ascii_digit d) (list_all is_ascii_digit ds) e in
    and_from (is_name_byte d) (list_all is_name_byte ds) (or_right (is_letter d) (is_ascii_digit d) h.0) (digits_in_names ds h.1)

first_digit : (ds : List ℕ) → list_all is_ascii_digit ds ≡ true → 0 < length ds → is_ascii_digit (get_or ds 0 0) ≡ true
first_digit [] e some = absurd (omega arith)
first_digit (d ∷ ds) e some = (and_parts (is_ascii_digit d) (list_all is_ascii_digit ds) e).0

no_second_digit : (w : Word) → is_ascii_digit (get_or (word_text w) 1 0) ≡ false
no_second_digit words.Main = refl
no_second_digit _ = refl

pub good_numbered : (b i : ℕ) → is_letter b ≡ true → i ≤ 9999 → IsGood (toks.Name (lettered b i))
good_numbered b i letter le =
    let h = decimal_is_IsNumeral i (omega arith) in
    let digits = all_digits (decimal i) h.0.1 in
    let few = length-decimal-le 4 i (omega arith) (omega arith) (omega arith) in
    record {
      spells = (
        and_from (is_letter b) (list_all is_name_byte (decimal i)) letter (digits_in_names (decimal i) digits),
        λ w same. false≢true (sym (no_second_digit w) ∙ ap (λ (bs : List ℕ). is_ascii_digit (get_or bs 1 0)) (sym same)
            ∙ first_digit (decimal i) digits h.0.0),
        refl,
      );
      within = omega arith;
    }

-- ---- lengths

sign_is_short : (s : Sign) → length (sign_text s) ≤ 64
sign_is_short signs.OpenRound = omega arith
sign_is_short _ = omega arith

good_is_short : (t : Tok) → IsGood t → length (spelling t) ≤ 64
good_is_short (toks.Name text) good = good.within
good_is_short (toks.Number n) good = let few = good.within in omega arith
good_is_short (toks.Word w) good = word_is_short w
good_is_short (toks.Sign s) good = sign_is_short s
good_is_short toks.End good = omega arith

-- a text of good tokens has no more than 64 bytes a piece
pub built_length : (ps : List Piece) → AreGood (toks_of ps) → length (text_of ps) ≤ 64 * length ps
built_length [] good = omega arith
built_length (gap b ∷ ps) good = let rest = built_length ps good in omega arith
built_length (tok t ∷ ps) good =
    let rest = built_length ps good.1 in
    let short = good_is_short t good.0 in
    let whole = length-append (spelling t) (text_of ps) in
    omega arith
