-- The lines of a text that are left to a reader.
use Rattle.std.specs.Prelude.{◌≡◌, ℕ, ◌+◌, List, ◌∷◌}

-- the number of the last line that was taken, and the words of each line that is left
pub record LinesView : Type 0 where
  pub number : ℕ
  pub left : List (List (List ℕ))

-- the first line, of these words, was taken
pub record TakesLine (old new : LinesView) (words : List (List ℕ)) : Type 0 where
  pub number : new.number ≡ old.number + 1
  pub left : old.left ≡ words ∷ new.left
