-- The texts of adders and of their like, in pieces: two numbers that ripple from place to place.
use Rattle.std.specs.Prelude.{ℕ, suc, ◌+◌, List, [], ◌∷◌, ◌++◌, codes}
use Rattle.revs_lexer.specs.declared.sign.Sign.TheVariants.{OpenRound, CloseRound, OpenCurly, Semi, Equal, Xor, And}
use Rattle.revs_lexer.specs.declared.word.Word.TheVariants.{Main, Let}
use Rattle.built_texts.specs.Pieces.{Piece}
use Rattle.arith_laws.proofs.Pieces.{blank, line_end, w, s, name, numbered, place_of, parameter, text_end}
use Rattle.arith_laws.proofs.RipplePieces.{Ripple, from_sum}

abbrev pub header : ℕ → List Piece
header bits = w Main ∷ blank ∷ parameter (codes "a") bits ++ blank ∷ parameter (codes "b") bits
    ++ blank ∷ s Equal ∷ blank ∷ s OpenCurly ∷ line_end ∷ []

-- What parts the texts of two numbers that ripple from place to place: the letter of the bits that they put out, the names of the
-- numbers and of the function of what goes on to the next place, and the line of what goes out of place 0.
pub record TwoNumbers : Type 0 where
  pub letter : ℕ
  pub first : List ℕ
  pub second : List ℕ
  pub function_name : List ℕ
  pub first_line : List Piece

module _ (T : TwoNumbers) where
  abbrev pub first_sum : List Piece
  first_sum = w Let ∷ blank ∷ numbered T.letter 0 ∷ blank ∷ s Equal ∷ blank ∷ place_of T.first 0 ++ blank ∷ s Xor ∷ blank
      ∷ place_of T.second 0 ++ s Semi ∷ line_end ∷ []

  abbrev pub sum_line : ℕ → List Piece
  sum_line i = w Let ∷ blank ∷ numbered T.letter i ∷ blank ∷ s Equal ∷ blank ∷ place_of T.first i ++ blank ∷ s Xor ∷ blank
      ∷ place_of T.second i ++ blank ∷ s Xor ∷ blank ∷ numbered 99 i ∷ s Semi ∷ line_end ∷ []

  abbrev pub carry_line : ℕ → List Piece
  carry_line i = w Let ∷ blank ∷ numbered 99 (i + 1) ∷ blank ∷ s Equal ∷ blank ∷ name T.function_name ∷ blank
      ∷ place_of T.first i ++ blank ∷ place_of T.second i ++ blank ∷ numbered 99 i ∷ s Semi ∷ line_end ∷ []

  abbrev pub ripple : Ripple
  ripple = record { letter = T.letter; first_sum = first_sum; first_carry = T.first_line; sum_line = sum_line; carry_line = carry_line }

  -- the text from the line of the function on, and the whole text, for numbers of one bit more than this
  abbrev pub from_function : List Piece → ℕ → List Piece
  from_function line m = line ++ from_sum ripple m text_end

  abbrev pub pieces : List Piece → ℕ → List Piece
  pieces line m = header (suc m) ++ from_function line m

-- ---- sums

abbrev pub carry_function : List Piece
carry_function =
    w Let ∷ blank ∷ name (codes "carry") ∷ blank ∷ name (codes "x") ∷ blank ∷ name (codes "y") ∷ blank ∷ name (codes "c")
    ∷ blank ∷ s Equal ∷ blank
    ∷ s OpenRound ∷ name (codes "x") ∷ blank ∷ s And ∷ blank ∷ name (codes "y") ∷ s CloseRound ∷ blank ∷ s Xor ∷ blank
    ∷ s OpenRound ∷ name (codes "c") ∷ blank ∷ s And ∷ blank ∷ s OpenRound ∷ name (codes "x") ∷ blank ∷ s Xor ∷ blank
    ∷ name (codes "y") ∷ s CloseRound ∷ s CloseRound ∷ s Semi ∷ line_end ∷ []

-- sums of two numbers of these names
abbrev pub sums_of : List ℕ → List ℕ → TwoNumbers
sums_of first second = record {
  letter = 115;
  first = first;
  second = second;
  function_name = codes "carry";
  first_line = w Let ∷ blank ∷ numbered 99 1 ∷ blank ∷ s Equal ∷ blank ∷ place_of first 0 ++ blank ∷ s And ∷ blank
      ∷ place_of second 0 ++ s Semi ∷ line_end ∷ [];
}

abbrev pub adder : TwoNumbers
adder = sums_of (codes "a") (codes "b")
