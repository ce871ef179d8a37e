-- Pieces of texts that compute with numbers.
use Rattle.std.specs.Prelude.{ℕ, zero, suc, ◌+◌, List, [], ◌∷◌}
use Rattle.revs_lexer.specs.declared.sign.Sign.{Sign}
use Rattle.revs_lexer.specs.declared.sign.Sign.TheVariants.{OpenRound, CloseRound, OpenSquare, CloseSquare, CloseCurly, Colon, Semi, Dot}
use Rattle.revs_lexer.specs.declared.word.Word.{Word}
use Rattle.revs_lexer.specs.declared.word.Word.TheVariants.{Reg, Bool}
use Rattle.revs_lexer.specs.declared.token.Tok.TheVariants as toks
use Rattle.built_texts.specs.Pieces.{Piece, gap, tok}
use Rattle.built_texts.proofs.PlaceLemmas.{lettered}

-- a blank, the end of a line, a word, a sign, a name, a letter with a number behind it, a number
abbrev pub blank : Piece
blank = gap 32

abbrev pub line_end : Piece
line_end = gap 10

abbrev pub w : Word → Piece
w word = tok (toks.Word word)

abbrev pub s : Sign → Piece
s sign = tok (toks.Sign sign)

abbrev pub name : List ℕ → Piece
name text = tok (toks.Name text)

abbrev pub numbered : ℕ → ℕ → Piece
numbered letter i = tok (toks.Name (lettered letter i))

abbrev pub digits : ℕ → Piece
digits i = tok (toks.Number i)

-- a place of a register
abbrev pub place_of : List ℕ → ℕ → List Piece
place_of text i = name text ∷ s Dot ∷ s OpenSquare ∷ digits i ∷ s CloseSquare ∷ []

-- a parameter of so many bits
abbrev pub parameter : List ℕ → ℕ → List Piece
parameter text bits =
    s OpenRound ∷ name text ∷ blank ∷ s Colon ∷ blank ∷ w Bool ∷ s OpenSquare ∷ digits bits ∷ s CloseSquare
    ∷ s CloseRound ∷ []

-- the outputs: so many bits from this one on, each in front of a further one, and what goes out of the last place
abbrev pub outputs_open : List Piece
outputs_open = w Reg ∷ blank ∷ s OpenSquare ∷ []

abbrev pub bit_outputs : ℕ → ℕ → ℕ → List Piece
bit_outputs letter i zero = []
bit_outputs letter i (suc count) = numbered letter i ∷ s Semi ∷ blank ∷ bit_outputs letter (i + 1) count

abbrev pub outputs_close : ℕ → List Piece → List Piece
outputs_close bits ps = numbered 99 bits ∷ s CloseSquare ∷ line_end ∷ ps

-- the last line of a text
abbrev pub text_end : List Piece
text_end = s CloseCurly ∷ line_end ∷ []
