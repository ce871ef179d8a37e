-- Pieces of more than one byte stand on one line.
use Rattle.std.proofs.Common.{◌≡◌, ℕ, ◌+◌, ◌<◌, Bool, true, false, not, List, [], ◌∷◌, length, take, drop, refl, sym, ap, ◌∙◌, subst, ⊎_elim}
use Rattle.std.proofs.Common.{arith}
use Rattle.std.specs.List.{list_all}
use Rattle.std.specs.Char.{is_ascii_digit}
use Rattle.std.proofs.lemmas.Bool.{and_from, and_parts, eqb-true}
use Rattle.revc_base.specs.declared.place.Place.{Place}
use Rattle.text_places.specs.Bytes.{is_line_feed, is_name_byte}
use Rattle.text_places.specs.Gaps.{IsGap}
use Rattle.text_places.specs.Gaps as gaps
use Rattle.text_places.specs.Places.{place_behind, place_after}
use Rattle.text_places.proofs.DigitLemmas.{all_digits}
use Rattle.revs_lexer.proofs.FirstByteLemmas.{identifier_goes_on}
use Rattle.revs_lexer.specs.Spelling.{word_text, sign_text, Spells}
use Rattle.revs_lexer.specs.declared.sign.Sign.{Sign}
use Rattle.revs_lexer.specs.declared.sign.Sign.TheVariants as signs
use Rattle.revs_lexer.specs.declared.token.Tok.{Tok}
use Rattle.revs_lexer.specs.declared.token.Tok.TheVariants as toks
use Rattle.revs_lexer.specs.declared.token.Token.{Token}
use Rattle.revs_lexer.specs.declared.word.Word.{Word}
use Rattle.revs_lexer.specs.declared.word.Word.TheVariants as words
use Rattle.revs_lexer.specs.inside.Pieces.{TakesGap, TakesToken, Takes, HasNoLineFeed}

not_true : (x : Bool) → not x ≡ true → x ≡ false
not_true true h = absurd cc
not_true false h = refl

-- the place behind bytes of one line
pub place_on_line : (at : Place) (bytes : List ℕ) → HasNoLineFeed bytes
    → place_after at bytes ≡ record { line = at.line; column = at.column + length bytes }
place_on_line at [] h =
    let same : at.column ≡ at.column + 0 = omega arith in ap (λ (c : ℕ). let p : Place = record { line = at.line; column = c } in p) same
place_on_line at (b ∷ bs) h =
    let parts = and_parts (not (is_line_feed b)) (list_all (λ c. not (is_line_feed c)) bs) h in
    let next : Place = record { line = at.line; column = at.column + 1 } in
    let here : place_behind at b ≡ next = rw (not_true (is_line_feed b) parts.0) refl in
    let column : at.column + 1 + length bs ≡ at.column + length (b ∷ bs) = omega arith in
    ap (λ (p : Place). place_after p bs) here ∙ place_on_line next bs parts.1
    ∙ ap (λ (c : ℕ). let p : Place = record { line = at.line; column = c } in p) column

-- a comment ends before its line feed
gap_line : (gap rest : List ℕ) → IsGap gap rest → 1 < length gap → HasNoLineFeed gap
gap_line gap rest (gaps.blank h) more = absurd (omega arith)
gap_line gap rest (gaps.comment h e) more = h

-- bytes that pass a test which a line feed does not
no_feed : (q : ℕ → Bool) → q 10 ≡ false → (b : ℕ) → q b ≡ true → not (is_line_feed b) ≡ true
no_feed q off b h = go (is_line_feed b) refl
  where
    go : (x : Bool) → is_line_feed b ≡ x → not x ≡ true
    go false e = refl
    go true e = let ten = ap q (eqb-true b 10 e) in let clash : false ≡ true = sym off ∙ sym ten ∙ h in absurd cc

on_line : (q : ℕ → Bool) → q 10 ≡ false → (bytes : List ℕ) → list_all q bytes ≡ true → HasNoLineFeed bytes
on_line q off [] h = refl
on_line q off (b ∷ bs) h =
    let parts = and_parts (q b) (list_all q bs) h in
    and_from (not (is_line_feed b)) (list_all (λ c. not (is_line_feed c)) bs) (no_feed q off b parts.0) (on_line q off bs parts.1)

word_line : (w : Word) → HasNoLineFeed (word_text w)
word_line words.Main = refl
word_line word = refl

sign_line : (s : Sign) → HasNoLineFeed (sign_text s)
sign_line signs.OpenRound = refl
sign_line sign = refl

spelled_line : (piece : List ℕ) (tok : Tok) → Spells piece tok → HasNoLineFeed piece
spelled_line piece (toks.Name name) h = on_line is_name_byte refl piece (identifier_goes_on piece h.0)
spelled_line piece (toks.Number n) h = on_line is_ascii_digit refl piece (all_digits piece h.0.1)
spelled_line piece (toks.Word w) h = subst HasNoLineFeed (sym h) (word_line w)
spelled_line piece (toks.Sign s) h = subst HasNoLineFeed (sym h) (sign_line s)
spelled_line piece toks.End h = absurd h

pub piece_line : (at : Place) (text : List ℕ) (len : ℕ) (old new : List Token) → Takes at text len old new → 1 < length (take len text)
    → HasNoLineFeed (take len text)
piece_line at text len old new taken more =
    ⊎_elim (λ (gap : TakesGap text len old new). gap_line (take len text) (drop len text) gap.gap more)
    (λ (token : TakesToken at text len old new). spelled_line (take len text) token.tok token.longest.spelled) taken
