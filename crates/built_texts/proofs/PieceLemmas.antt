-- The tokens of a text that is built of pieces.
use Rattle.std.proofs.Common.{◌≡◌, ℕ, ◌<◌, Bool, true, false, not, ◌&&◌, cond, List, [], ◌∷◌, ◌++◌, length, Some, refl, ap, ◌∙◌, arith}
use Rattle.std.specs.Prelude.{◌==◌, decimal}
use Rattle.std.specs.List.{list_all, prefix_len}
use Rattle.std.specs.Char.{is_ascii_digit}
use Rattle.std.proofs.lemmas.Bool.{false≢true, and_parts, not-true}
use Rattle.text_places.specs.Bytes.{is_blank, is_letter, is_name_byte}
use Rattle.text_places.specs.Places.{place_behind, place_after}
use Rattle.text_places.specs.Gaps as gaps
use Rattle.text_places.proofs.ByteLemmas.{first_of, same_first}
use Rattle.text_places.proofs.DigitLemmas.{all_digits}
use Rattle.text_places.proofs.RunLemmas.{Stops, front_in_run, front_is_run}
use Rattle.revs_lexer.specs.Spelling.{word_text, sign_text, is_identifier, Spells}
use Rattle.revs_lexer.specs.Tokens.{IsCut, IsLongest}
use Rattle.revs_lexer.specs.Tokens as cuts
use Rattle.revs_lexer.specs.declared.word.Word.{Word}
use Rattle.revs_lexer.specs.declared.word.Word.TheVariants as words
use Rattle.revs_lexer.specs.declared.sign.Sign.{Sign}
use Rattle.revs_lexer.specs.declared.sign.Sign.TheVariants as signs
use Rattle.revs_lexer.specs.declared.token.Tok.{Tok}
use Rattle.revs_lexer.specs.declared.token.Tok.TheVariants as toks
use Rattle.revs_lexer.proofs.TableLemmas.{sign_at, sign_at-longest}
use Rattle.revs_lexer.proofs.FirstByteLemmas.{some_spelled, identifier_goes_on, spelled_by_letter, spelled_by_digit, spelled_by_other}
use Rattle.built_texts.specs.Pieces.{gap, tok, spelling, text_of, begins_without, sign_ends, ends, fits, IsGood}
use Rattle.built_texts.specs.Pieces.{PiecesAreTokens}

stops : (q : ℕ → Bool) (rest : List ℕ) → begins_without q rest ≡ true → Stops q rest
stops q [] e = tt
stops q (b ∷ bs) e = not-true (q b) e

-- ---- the longest token

-- A piece that passes a test, up to a byte that fails it, is the longest token where all that begin so pass.
longest_in_run : (q : ℕ → Bool) (p rest : List ℕ) (t : Tok) → list_all q p ≡ true → Stops q rest → Spells p t
    → ((front : List ℕ) (other : Tok) → Spells front other → first_of front ≡ first_of (p ++ rest) → list_all q front ≡ true) → IsLongest (p ++ rest) p rest t
longest_in_run q p rest t all behind spelled passes = record {
  cut = refl;
  spelled = spelled;
  longest = λ front left other cut h.
      let within = front_in_run q front left (passes front other h (same_first (p ++ rest) front left cut (some_spelled front other h))) in
      let same : prefix_len q (p ++ rest) ≡ prefix_len q (front ++ left) = ap (prefix_len q) cut in
      let run = front_is_run q p rest all behind in
      omega arith;
}

longest_identifier : (p rest : List ℕ) (t : Tok) → is_identifier p ≡ true → Stops is_name_byte rest → Spells p t → IsLongest (p ++ rest) p rest t
longest_identifier [] rest t e behind spelled = absurd (false≢true e)
longest_identifier (b ∷ bs) rest t e behind spelled =
    let letter = (and_parts (is_letter b) (list_all is_name_byte bs) e).0 in
    longest_in_run is_name_byte (b ∷ bs) rest t (identifier_goes_on (b ∷ bs) e) behind spelled
    (λ front other h first. identifier_goes_on front (spelled_by_letter front other h (ap is_letter first ∙ letter)))

longest_digits : (p rest : List ℕ) (t : Tok) → list_all is_ascii_digit p ≡ true → 0 < length p → Stops is_ascii_digit rest → Spells p t
    → IsLongest (p ++ rest) p rest t
longest_digits [] rest t all some behind spelled = absurd (omega arith)
longest_digits (b ∷ bs) rest t all some behind spelled =
    let digit = (and_parts (is_ascii_digit b) (list_all is_ascii_digit bs) all).0 in
    longest_in_run is_ascii_digit (b ∷ bs) rest t all behind spelled
    (λ front other h first. spelled_by_digit front other h (ap is_ascii_digit first ∙ digit))

-- ---- signs

by_dot : (t : Bool) → not t ≡ true → cond (t && true) (Some signs.DotDot) (Some signs.Dot) ≡ Some signs.Dot
by_dot true e = absurd (false≢true e)
by_dot false e = refl

by_minus : (t : Bool) → not t ≡ true → cond (t && true) (Some signs.Arrow) (Some signs.Minus) ≡ Some signs.Minus
by_minus true e = absurd (false≢true e)
by_minus false e = refl

dot_found : (rest : List ℕ) → begins_without (λ b. 46 == b) rest ≡ true → sign_at (46 ∷ rest) ≡ Some signs.Dot
dot_found [] e = refl
dot_found (b ∷ bs) e = by_dot (46 == b) e

minus_found : (rest : List ℕ) → begins_without (λ b. 62 == b) rest ≡ true → sign_at (45 ∷ rest) ≡ Some signs.Minus
minus_found [] e = refl
minus_found (b ∷ bs) e = by_minus (62 == b) e

sign_found : (s : Sign) (rest : List ℕ) → sign_ends s rest ≡ true → sign_at (sign_text s ++ rest) ≡ Some s
sign_found signs.Dot rest e = dot_found rest e
sign_found signs.Minus rest e = minus_found rest e
sign_found signs.OpenRound rest e = refl
sign_found _ rest e = refl

no_letter : (s : Sign) (rest : List ℕ) → is_letter (first_of (sign_text s ++ rest)) ≡ false
no_letter signs.OpenRound rest = refl
no_letter _ rest = refl

no_digit : (s : Sign) (rest : List ℕ) → is_ascii_digit (first_of (sign_text s ++ rest)) ≡ false
no_digit signs.OpenRound rest = refl
no_digit _ rest = refl

longest_sign : (s : Sign) (rest : List ℕ) → sign_ends s rest ≡ true → IsLongest (sign_text s ++ rest) (sign_text s) rest (toks.Sign s)
longest_sign s rest e = record {
  cut = refl;
  spelled = refl;
  longest = λ front left other cut h.
      let text = sign_text s ++ rest in
      let first = same_first text front left cut (some_spelled front other h) in
      let (u, same) = spelled_by_other front other h (ap is_letter first ∙ no_letter s rest) (ap is_ascii_digit first ∙ no_digit s rest) in
      let le = sign_at-longest text s u left (sign_found s rest e) (cut ∙ ap (λ p. p ++ left) same) in
      let len = ap length same in
      omega arith;
}

-- ---- the whole text

word_is_identifier : (w : Word) → is_identifier (word_text w) ≡ true
word_is_identifier words.Main = refl
word_is_identifier _ = refl

longest_piece : (t : Tok) (rest : List ℕ) → IsGood t → ends t rest ≡ true → IsLongest (spelling t ++ rest) (spelling t) rest t
longest_piece (toks.Name text) rest good e = longest_identifier text rest (toks.Name text) good.spells.0 (stops is_name_byte rest e) good.spells
longest_piece (toks.Word w) rest good e = longest_identifier (word_text w) rest (toks.Word w) (word_is_identifier w) (stops is_name_byte rest e) good.spells
longest_piece (toks.Number n) rest good e =
    longest_digits (decimal n) rest (toks.Number n) (all_digits (decimal n) good.spells.0.1) good.spells.0.0 (stops is_ascii_digit rest e) good.spells
longest_piece (toks.Sign s) rest good e = longest_sign s rest e
longest_piece toks.End rest good e = absurd good.spells

pub cut_of : PiecesAreTokens
cut_of [] at good e = cuts.done
cut_of (gap b ∷ ps) at good e =
    let h = and_parts (is_blank b) (fits ps) e in
    cuts.gap (b ∷ []) (text_of ps) refl (gaps.blank h.0) (cut_of ps (place_behind at b) good h.1)
cut_of (tok t ∷ ps) at good e =
    let h = and_parts (ends t (text_of ps)) (fits ps) e in
    cuts.token (spelling t) (text_of ps) t (longest_piece t (text_of ps) good.0 h.0) good.0.within
    (cut_of ps (place_after at (spelling t)) good.1 h.1)
