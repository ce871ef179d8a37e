-- What is noted of one flip.
use Rattle.std.specs.Prelude.{◌≡◌, ℕ, ◌<◌, if◌then◌else◌, List, ◌++◌, length, replicate, slice_index}
use Rattle.mct_circuit.specs.Sizes.{has_line}
use Rattle.flip_lists.specs.declared.looks.OnLines.{OnLines}
use Rattle.flip_lists.specs.Looks.{line_places, times}

-- an end stands at each of the lines, and the others stay
pub record AreSet (lines : List ℕ) (end : ℕ) (old new : List ℕ) : Type 0 where
  pub long : length new ≡ length old
  pub each : (at : ℕ) → at < length old
      → slice_index new at ≡ (if has_line at lines then end else slice_index old at)

-- a place goes behind the others of each of the lines
pub record ArePutOn (lines : List ℕ) (place : ℕ) (old new : OnLines) : Type 0 where
  pub long : length new.places.items ≡ length old.places.items
  pub each : (line : ℕ) → line < length old.places.items
      → line_places new line ≡ line_places old line ++ replicate (times line lines) place
