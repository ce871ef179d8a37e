-- What the work on the flips leaves.
use Rattle.std.specs.Prelude.{◌≡◌, ℕ, ◌<◌, ◌≤◌, Bool, List, length}
use Rattle.mct_circuit.specs.Gates.{line_map}
use Rattle.flip_lists.specs.declared.flip.Flip.{Flip}
use Rattle.flip_lists.specs.Flips.{AreFlipsOn, gates_of}
use Rattle.circuit_tidy.specs.Tidied.{IsTidy}

-- flips on n lines with the same line map, at most as many
pub record Follows (n : ℕ) (old new : List Flip) : Type 0 where
  pub on : AreFlipsOn n new
  pub few : length new ≤ length old
  pub same : (bits : List Bool) → length bits ≡ n
      → line_map (gates_of new) bits ≡ line_map (gates_of old) bits

-- and fewer
pub record GoesOn (n : ℕ) (old new : List Flip) : Type 0 where
  pub follows : Follows n old new
  pub less : length new < length old

-- blocks were replaced
pub record IsSwept (old new : List Flip) : Type 0 where
  pub goes_on : (n : ℕ) → AreFlipsOn n old → GoesOn n old new

pub record IsDone (n : ℕ) (old new : List Flip) : Type 0 where
  pub follows : Follows n old new
  pub tidy : IsTidy n new
