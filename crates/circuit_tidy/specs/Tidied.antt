-- What `tidy` promises of a list of narrow gates on n lines.
use Rattle.std.specs.Prelude.{◌≡◌, ℕ, ◌≤◌, Bool, List, length}
use Rattle.std.specs.List.{AllByRecursion}
use Rattle.mct_circuit.specs.Gates.{GateView, line_map}
use Rattle.flip_lists.specs.declared.flip.Flip.{Flip}
use Rattle.flip_lists.specs.Flips.{gates_of}
use Rattle.circuit_tidy.specs.Pairs.{HasPair}
use Rattle.circuit_tidy.specs.Blocks.{AreBlocks, IsNoLonger}

-- no pair of flips cancels, and no block is longer than its elimination
pub record IsTidy (n : ℕ) (flips : List Flip) : Type 0 where
  pub no_pair : ¬ HasPair flips
  pub blocks : List (List Flip)
  pub are : AreBlocks n flips blocks
  pub short : AllByRecursion (IsNoLonger n) blocks

-- the new gates are a tidy list of flips, at most as many as the old ones, with the same line map
pub record IsTidied (n : ℕ) (old new : List GateView) : Type 0 where
  pub flips : List Flip
  pub are : new ≡ gates_of flips
  pub tidy : IsTidy n flips
  pub few : length new ≤ length old
  pub same : (bits : List Bool) → length bits ≡ n → line_map new bits ≡ line_map old bits
