-- Texts that are built of pieces: blanks and tokens, one behind the other.
use Rattle.std.specs.Prelude.{ℕ, Bool, true, false, not, ◌&&◌, ◌==◌, cond, IsTrue, List, [], ◌∷◌, ◌++◌, codes, decimal, bytes_eq}
use Rattle.std.specs.Char.{is_ascii_digit}
use Rattle.revc_base.specs.declared.place.Place.{Place}
use Rattle.text_places.specs.Bytes.{is_blank, is_name_byte}
use Rattle.text_places.specs.Places.{place_behind, place_after}
use Rattle.revs_lexer.specs.Spelling.{word_text, sign_text, Spells, IsWithinLimits}
use Rattle.revs_lexer.specs.Tokens.{IsCut, whole}
use Rattle.revs_lexer.specs.declared.sign.Sign.{Sign}
use Rattle.revs_lexer.specs.declared.token.Tok.{Tok}
use Rattle.revs_lexer.specs.declared.token.Tok.TheVariants as toks
use Rattle.revs_lexer.specs.declared.token.Token.{Token}

-- a blank, or a token
pub data Piece : Type 0 where
  gap : ℕ → Piece
  tok : Tok → Piece

-- how a token is spelled where a text is built; `End` is no piece of a text
abbrev pub spelling : Tok → List ℕ
spelling (toks.Name text) = text
spelling (toks.Number n) = decimal n
spelling (toks.Word w) = word_text w
spelling (toks.Sign s) = sign_text s
spelling toks.End = []

-- the text that is built of these pieces
abbrev pub text_of : List Piece → List ℕ
text_of [] = []
text_of (gap b ∷ ps) = b ∷ text_of ps
text_of (tok t ∷ ps) = spelling t ++ text_of ps

-- their tokens
abbrev pub toks_of : List Piece → List Tok
toks_of [] = []
toks_of (gap b ∷ ps) = toks_of ps
toks_of (tok t ∷ ps) = t ∷ toks_of ps

-- their tokens, each at the place where it stands in a text that begins at this place
abbrev pub tokens_at : Place → List Piece → List Token
tokens_at at [] = []
tokens_at at (gap b ∷ ps) = tokens_at (place_behind at b) ps
tokens_at at (tok t ∷ ps) = record { tok = t; at = at } ∷ tokens_at (place_after at (spelling t)) ps

-- whether the first byte of a text, if it has one, is none of these
abbrev pub begins_without : (ℕ → Bool) → List ℕ → Bool
begins_without q [] = true
begins_without q (b ∷ bs) = not (q b)

-- whether a sign ends in front of this text: `.` in front of no dot, `-` in front of no `>`, any
-- other sign anywhere
abbrev pub sign_ends : Sign → List ℕ → Bool
sign_ends s rest =
    cond (bytes_eq (sign_text s) (codes ".")) (begins_without (λ b. 46 == b) rest)
    (cond (bytes_eq (sign_text s) (codes "-")) (begins_without (λ b. 62 == b) rest) true)

-- Whether a token ends in front of this text: a name and a word in front of no byte of a name, a
-- number in front of no digit.
abbrev pub ends : Tok → List ℕ → Bool
ends (toks.Name text) rest = begins_without is_name_byte rest
ends (toks.Word w) rest = begins_without is_name_byte rest
ends (toks.Number n) rest = begins_without is_ascii_digit rest
ends (toks.Sign s) rest = sign_ends s rest
ends toks.End rest = false

-- Whether each gap is a blank, and each token ends where the next piece begins.
abbrev pub fits : List Piece → Bool
fits [] = true
fits (gap b ∷ ps) = is_blank b && fits ps
fits (tok t ∷ ps) = ends t (text_of ps) && fits ps

-- The token is spelled so, within the limits of tokens.
pub record IsGood (t : Tok) : Type 0 where
  pub spells : Spells (spelling t) t
  pub within : IsWithinLimits (spelling t) t

abbrev pub AreGood : List Tok → Type 0
AreGood [] = Unit {0}
AreGood (t ∷ ts) = IsGood t × AreGood ts

-- The tokens of a text that is built of pieces are those of its pieces.
abbrev pub PiecesAreTokens : Type 0
PiecesAreTokens =
    (ps : List Piece) (at : Place) → AreGood (toks_of ps) → IsTrue (fits ps)
    → IsCut at (text_of ps) (tokens_at at ps) whole
