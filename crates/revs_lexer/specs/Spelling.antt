-- What the tokens of the language are, and how each is spelled.
use Rattle.std.specs.Prelude.{◌≡◌, ◌≢◌, ℕ, ◌≤◌, Bool, false, ◌&&◌, List, [], ◌∷◌, length, IsTrue, codes}
use Rattle.std.specs.List.{list_all}
use Rattle.std.specs.Str.Parse.{IsNumeral, digits_value}
use Rattle.text_places.specs.Bytes.{is_letter, is_name_byte}
use Rattle.revs_lexer.specs.declared.word.Word.{Word}
use Rattle.revs_lexer.specs.declared.word.Word.TheVariants as words
use Rattle.revs_lexer.specs.declared.sign.Sign.{Sign}
use Rattle.revs_lexer.specs.declared.sign.Sign.TheVariants as signs
use Rattle.revs_lexer.specs.declared.token.Tok.{Tok}
use Rattle.revs_lexer.specs.declared.token.Tok.TheVariants as toks
use Rattle.revc_base.specs.declared.limits.TheConstants.{MOST_NAME_BYTES}
use Rattle.revs_lexer.specs.declared.lexer.TheConstants.{MOST_DIGITS}

-- the words, and how each is spelled
abbrev pub word_text : Word → List ℕ
word_text words.Main = codes "main"
word_text words.Let = codes "let"
word_text words.Fun = codes "fun"
word_text words.Clean = codes "clean"
word_text words.Assert = codes "assert"
word_text words.Append = codes "append"
word_text words.Rotate = codes "rotate"
word_text words.Reg = codes "reg"
word_text words.True = codes "true"
word_text words.False = codes "false"
word_text words.Bool = codes "bool"
word_text words.For = codes "for"
word_text words.In = codes "in"
word_text words.Do = codes "do"
word_text words.Revs = codes "revs"

-- the signs, and how each is spelled
abbrev pub sign_text : Sign → List ℕ
sign_text signs.OpenRound = codes "("
sign_text signs.CloseRound = codes ")"
sign_text signs.OpenSquare = codes "["
sign_text signs.CloseSquare = codes "]"
sign_text signs.OpenCurly = codes "{"
sign_text signs.CloseCurly = codes "}"
sign_text signs.Colon = codes ":"
sign_text signs.Semi = codes ";"
sign_text signs.Equal = codes "="
sign_text signs.Xor = codes "<>"
sign_text signs.And = codes "&&"
sign_text signs.Assign = codes "<-"
sign_text signs.Arrow = codes "->"
sign_text signs.Dot = codes "."
sign_text signs.DotDot = codes ".."
sign_text signs.Plus = codes "+"
sign_text signs.Minus = codes "-"

-- a letter, then letters and digits; `_` counts as a letter
abbrev pub is_identifier : List ℕ → Bool
is_identifier [] = false
is_identifier (b ∷ bs) = is_letter b && list_all is_name_byte bs

-- Which bytes spell a token, however long they are: an identifier is a word, or else a name, and
-- digits are their value.
abbrev pub Spells : List ℕ → Tok → Type 0
Spells bytes (toks.Name name) = IsTrue (is_identifier bytes) × ((w : Word) → bytes ≢ word_text w)
    × (name ≡ bytes)
Spells bytes (toks.Number n) = IsNumeral 10 bytes × (n ≡ digits_value 10 bytes)
Spells bytes (toks.Word w) = bytes ≡ word_text w
Spells bytes (toks.Sign s) = bytes ≡ sign_text s
Spells bytes toks.End = ⊥

-- how many bytes a token may have
abbrev pub IsWithinLimits : List ℕ → Tok → Type 0
IsWithinLimits bytes (toks.Name name) = length bytes ≤ MOST_NAME_BYTES
IsWithinLimits bytes (toks.Number n) = length bytes ≤ MOST_DIGITS
IsWithinLimits bytes _ = Unit {0}
