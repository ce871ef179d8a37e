-- Lines that ripple from place to place, in pieces.
use Rattle.std.specs.Prelude.{ℕ, zero, suc, ◌+◌, List, ◌++◌}
use Rattle.built_texts.specs.Pieces.{Piece}
use Rattle.arith_laws.proofs.Pieces.{bit_outputs, outputs_open, outputs_close}

-- What parts the lines of programs that go from place to place: the letter of the bits that they put out, and the two lines of
-- place 0 and of each place above it. The first gives the bit of the place, the second what goes on to the next.
pub record Ripple : Type 0 where
  pub letter : ℕ
  pub first_sum : List Piece
  pub first_carry : List Piece
  pub sum_line : ℕ → List Piece
  pub carry_line : ℕ → List Piece

module _ (K : Ripple) where
  -- so many places from this one on, in front of what is behind
  abbrev pub places : ℕ → ℕ → List Piece → List Piece
  places i zero ps = ps
  places i (suc count) ps = K.sum_line i ++ (K.carry_line i ++ places (i + 1) count ps)

  -- the text from each of its parts on, for numbers of one bit more than this, in front of what is behind
  abbrev pub from_outputs : ℕ → List Piece → List Piece
  from_outputs m ps = bit_outputs K.letter 0 (suc m) ++ outputs_close (suc m) ps

  abbrev pub from_open : ℕ → List Piece → List Piece
  from_open m ps = outputs_open ++ from_outputs m ps

  abbrev pub from_carry : ℕ → List Piece → List Piece
  from_carry m ps = K.first_carry ++ places 1 m (from_open m ps)

  abbrev pub from_sum : ℕ → List Piece → List Piece
  from_sum m ps = K.first_sum ++ from_carry m ps
