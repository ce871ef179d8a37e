-- The text of an incrementer in pieces.
use Rattle.std.specs.Prelude.{ℕ, suc, ◌+◌, List, [], ◌∷◌, ◌++◌, codes}
use Rattle.revs_lexer.specs.declared.sign.Sign.TheVariants.{OpenCurly, Semi, Equal, Xor, And}
use Rattle.revs_lexer.specs.declared.word.Word.TheVariants.{Main, Let, True}
use Rattle.built_texts.specs.Pieces.{Piece}
use Rattle.arith_laws.proofs.Pieces.{blank, line_end, w, s, numbered, place_of, parameter, text_end}
use Rattle.arith_laws.proofs.RipplePieces.{Ripple, from_sum}

-- the parameter of programs of one number
abbrev pub header : ℕ → List Piece
header bits = w Main ∷ blank ∷ parameter (codes "a") bits ++ blank ∷ s Equal ∷ blank ∷ s OpenCurly ∷ line_end ∷ []

abbrev pub first_sum : List Piece
first_sum = w Let ∷ blank ∷ numbered 115 0 ∷ blank ∷ s Equal ∷ blank ∷ w True ∷ blank ∷ s Xor ∷ blank
    ∷ place_of (codes "a") 0 ++ s Semi ∷ line_end ∷ []

abbrev pub first_carry : List Piece
first_carry = w Let ∷ blank ∷ numbered 99 1 ∷ blank ∷ s Equal ∷ blank ∷ place_of (codes "a") 0 ++ s Semi ∷ line_end ∷ []

abbrev pub sum_line : ℕ → List Piece
sum_line i = w Let ∷ blank ∷ numbered 115 i ∷ blank ∷ s Equal ∷ blank ∷ place_of (codes "a") i ++ blank ∷ s Xor ∷ blank
    ∷ numbered 99 i ∷ s Semi ∷ line_end ∷ []

abbrev pub carry_line : ℕ → List Piece
carry_line i = w Let ∷ blank ∷ numbered 99 (i + 1) ∷ blank ∷ s Equal ∷ blank ∷ place_of (codes "a") i ++ blank ∷ s And ∷ blank
    ∷ numbered 99 i ∷ s Semi ∷ line_end ∷ []

abbrev pub incrementer : Ripple
incrementer = record { letter = 115; first_sum = first_sum; first_carry = first_carry; sum_line = sum_line; carry_line = carry_line }

-- the whole text, for numbers of one bit more than this
abbrev pub pieces : ℕ → List Piece
pieces m = header (suc m) ++ from_sum incrementer m text_end
