-- The lines of subtractors, and the texts of comparators, in pieces.
use Rattle.std.specs.Prelude.{ℕ, zero, suc, ◌+◌, List, [], ◌∷◌, ◌++◌, codes}
use Rattle.revs_lexer.specs.declared.sign.Sign.TheVariants.{OpenRound, CloseRound, Semi, Equal, Xor, And}
use Rattle.revs_lexer.specs.declared.word.Word.TheVariants.{Let, True}
use Rattle.built_texts.specs.Pieces.{Piece}
use Rattle.arith_laws.proofs.Pieces.{blank, line_end, w, s, name, numbered, place_of, text_end}
use Rattle.arith_laws.proofs.TwoNumberPieces.{TwoNumbers, header, carry_line}

-- ---- differences

abbrev pub borrow_function : List Piece
borrow_function =
    w Let ∷ blank ∷ name (codes "lend") ∷ blank ∷ name (codes "x") ∷ blank ∷ name (codes "y") ∷ blank ∷ name (codes "c")
    ∷ blank ∷ s Equal ∷ blank
    ∷ s OpenRound ∷ s OpenRound ∷ w True ∷ blank ∷ s Xor ∷ blank ∷ name (codes "x") ∷ s CloseRound ∷ blank ∷ s And ∷ blank ∷ name (codes "y")
    ∷ s CloseRound ∷ blank ∷ s Xor ∷ blank
    ∷ s OpenRound ∷ name (codes "c") ∷ blank ∷ s And ∷ blank ∷ s OpenRound ∷ w True ∷ blank ∷ s Xor ∷ blank ∷ name (codes "x") ∷ blank ∷ s Xor ∷ blank
    ∷ name (codes "y") ∷ s CloseRound ∷ s CloseRound ∷ s Semi ∷ line_end ∷ []

abbrev pub first_borrow : List Piece
first_borrow = w Let ∷ blank ∷ numbered 99 1 ∷ blank ∷ s Equal ∷ blank ∷ s OpenRound ∷ w True ∷ blank ∷ s Xor ∷ blank
    ∷ place_of (codes "a") 0 ++ s CloseRound ∷ blank ∷ s And ∷ blank ∷ place_of (codes "b") 0 ++ s Semi ∷ line_end ∷ []

abbrev pub subtractor : TwoNumbers
subtractor = record { letter = 100; first = codes "a"; second = codes "b"; function_name = codes "lend"; first_line = first_borrow }

-- ---- comparators

-- so many borrows, from this place on
abbrev pub borrows : ℕ → ℕ → List Piece
borrows i zero = []
borrows i (suc count) = carry_line subtractor i ++ borrows (i + 1) count

-- the last borrow as the output, and the end
abbrev pub closing : ℕ → List Piece
closing bits = numbered 99 bits ∷ line_end ∷ text_end

-- the text from each of its parts on, for numbers of one bit more than this
abbrev pub from_borrows : ℕ → List Piece
from_borrows m = borrows 1 m ++ closing (suc m)

abbrev pub from_first : ℕ → List Piece
from_first m = first_borrow ++ from_borrows m

abbrev pub from_function : ℕ → List Piece
from_function m = borrow_function ++ from_first m

-- the whole text
abbrev pub pieces : ℕ → List Piece
pieces m = header (suc m) ++ from_function m
