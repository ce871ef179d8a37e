-- Kinds of flips, and how many there are of each.
use Rattle.std.specs.Prelude.{◌≡◌, ℕ, ◌+◌, ◌-◌, ◌*◌, ◌^◌, ◌%◌, ◌<◌, ◌==◌, min, max, List, length, slice_index}
use Rattle.std.specs.List.{count_by}
use Rattle.flip_lists.specs.declared.flip.Controls.{Controls}
use Rattle.flip_lists.specs.declared.flip.Controls.TheVariants.{Zero, One, Two}
use Rattle.flip_lists.specs.declared.flip.Flip.{Flip}
use Rattle.flip_lists.specs.declared.marks.TheConstants.{MOST_KINDS}

-- ---- the kind of a flip

abbrev pub sum_of : Controls → ℕ
sum_of Zero = 0
sum_of (One line) = line
sum_of (Two first second) = first + second

abbrev pub product_of : Controls → ℕ
product_of Zero = 0
product_of (One line) = 1
product_of (Two first second) = first * second

-- the order of the controls does not matter
abbrev pub kind_of : Flip → ℕ
kind_of flip =
    (flip.target * 31337 + (sum_of flip.controls * 40503 + product_of flip.controls * 97))
    % MOST_KINDS

-- ---- counts

-- the count of the flip's kind
abbrev pub count_of : List ℕ → Flip → ℕ
count_of counts flip = slice_index counts (kind_of flip)

-- how many of the flips are of the kind
abbrev pub how_many : ℕ → List Flip → ℕ
how_many kind flips = count_by (λ flip. kind_of flip == kind) flips

-- a count with so many more, as far as 32 bits hold it
abbrev pub raised : ℕ → ℕ → ℕ
raised count more = min (count + more) (max count (2 ^ 32 - 1))

-- each kind's count has grown by the number of its flips
pub record AreAdded (flips : List Flip) (old new : List ℕ) : Type 0 where
  pub long : length new ≡ length old
  pub each : (kind : ℕ) → kind < length old
      → slice_index new kind ≡ raised (slice_index old kind) (how_many kind flips)

-- each kind's count is less by the number of its flips, or 0
pub record AreRemoved (flips : List Flip) (old new : List ℕ) : Type 0 where
  pub long : length new ≡ length old
  pub each : (kind : ℕ) → kind < length old
      → slice_index new kind ≡ slice_index old kind - how_many kind flips
