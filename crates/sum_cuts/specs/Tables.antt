-- Truth tables.
use Rattle.std.specs.Prelude.{ℕ, ◌+◌, ◌*◌, ◌/◌, ◌%◌, Bool, List, [], ◌∷◌, cond, slice_index_or}
use Rattle.linear_forms.specs.Pairs.{is_in}

-- the value in a row: a word has those of 64 rows, the first in its lowest bit
unfoldable pub table_bit : List ℕ → ℕ → Bool
table_bit words row = is_in (slice_index_or words (row / 64) 0) (row % 64)

-- the row in which the variables have these bits
abbrev pub row_of : List Bool → ℕ
row_of [] = 0
row_of (b ∷ bs) = cond b 1 0 + 2 * row_of bs
