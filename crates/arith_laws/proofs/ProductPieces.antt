-- The text of a multiplier in pieces.
use Rattle.std.specs.Prelude.{ℕ, zero, suc, ◌+◌, Bool, List, [], ◌∷◌, ◌++◌, length, codes}
use Rattle.revs_lexer.specs.declared.sign.Sign.TheVariants as signs
use Rattle.revs_lexer.specs.declared.word.Word.TheVariants as words
use Rattle.built_texts.specs.Pieces.{Piece}
use Rattle.arith_templates.specs.Texts.{by_digit, from_place}
use Rattle.arith_laws.proofs.Pieces.{blank, line_end, w, s, name, numbered, digits, text_end}
use Rattle.arith_laws.proofs.RipplePieces.{from_sum}
use Rattle.arith_laws.proofs.TwoNumberPieces.{TwoNumbers, ripple, carry_function, sums_of}
use Rattle.arith_laws.proofs.IncrementPieces.{header}

-- ---- the function that adds

-- its numbers, its first line, and its last
abbrev pub plus : TwoNumbers
plus = sums_of (codes "p") (codes "q")

abbrev pub plus_open : List Piece
plus_open = w words.Let ∷ blank ∷ name (codes "plus") ∷ blank ∷ name (codes "p") ∷ blank ∷ name (codes "q") ∷ blank ∷ s signs.Equal ∷ blank
    ∷ s signs.OpenCurly ∷ line_end ∷ []

abbrev pub plus_end : List Piece
plus_end = s signs.CloseCurly ∷ s signs.Semi ∷ line_end ∷ []

-- ---- the number 0

abbrev pub zero_open : List Piece
zero_open = w words.Let ∷ blank ∷ numbered 114 0 ∷ blank ∷ s signs.Equal ∷ blank ∷ w words.Reg ∷ blank ∷ s signs.OpenSquare ∷ []

-- so many bits in front of the last
abbrev pub zero_bits : ℕ → List Piece
zero_bits zero = []
zero_bits (suc count) = w words.False ∷ s signs.Semi ∷ blank ∷ zero_bits count

abbrev pub zero_close : List Piece
zero_close = w words.False ∷ s signs.CloseSquare ∷ s signs.Semi ∷ line_end ∷ []

-- ---- the digits

abbrev pub shift_line : ℕ → List Piece
shift_line k = w words.Let ∷ blank ∷ numbered 114 (k + 1) ∷ blank ∷ s signs.Equal ∷ blank ∷ w words.Append ∷ blank ∷ numbered 114 k ∷ blank
    ∷ w words.Reg ∷ blank ∷ s signs.OpenSquare ∷ w words.False ∷ s signs.CloseSquare ∷ s signs.Semi ∷ line_end ∷ []

abbrev pub first_add_line : List Piece
first_add_line = w words.Let ∷ blank ∷ numbered 114 1 ∷ blank ∷ s signs.Equal ∷ blank ∷ name (codes "plus") ∷ blank ∷ numbered 114 0 ∷ blank
    ∷ name (codes "a") ∷ s signs.Semi ∷ line_end ∷ []

abbrev pub slice_of : ℕ → ℕ → ℕ → List Piece
slice_of k i j = numbered 114 k ∷ s signs.Dot ∷ s signs.OpenSquare ∷ digits i ∷ s signs.DotDot ∷ digits j ∷ s signs.CloseSquare ∷ []

abbrev pub add_line : ℕ → ℕ → List Piece
add_line n k = w words.Let ∷ blank ∷ numbered 114 (k + 2) ∷ blank ∷ s signs.Equal ∷ blank ∷ w words.Append ∷ blank ∷ slice_of (k + 1) 0 k
    ++ blank ∷ s signs.OpenRound ∷ name (codes "plus") ∷ blank ∷ slice_of (k + 1) (k + 1) (n + k) ++ blank ∷ name (codes "a") ∷ s signs.CloseRound
    ∷ s signs.Semi ∷ line_end ∷ []

abbrev pub digit_line : ℕ → ℕ → Bool → List Piece
digit_line n = by_digit shift_line first_add_line (add_line n)

abbrev pub digit_lines : ℕ → ℕ → List Bool → List Piece
digit_lines n = from_place (digit_line n)

-- ---- the end, and the whole text

abbrev pub product_end : ℕ → List Piece
product_end count = numbered 114 count ∷ line_end ∷ text_end

module _ (m : ℕ) (ds : List Bool) where
  abbrev pub from_digits : List Piece
  from_digits = digit_lines (suc m) 0 ds ++ product_end (length ds)

  abbrev pub from_last_zero : List Piece
  from_last_zero = zero_close ++ from_digits

  abbrev pub from_zeros : List Piece
  from_zeros = zero_bits m ++ from_last_zero

  abbrev pub from_zero : List Piece
  from_zero = zero_open ++ from_zeros

  abbrev pub from_plus : List Piece
  from_plus = plus_open ++ from_sum (ripple plus) m (plus_end ++ from_zero)

  abbrev pub from_function : List Piece
  from_function = carry_function ++ from_plus

  abbrev pub pieces : List Piece
  pieces = header (suc m) ++ from_function
