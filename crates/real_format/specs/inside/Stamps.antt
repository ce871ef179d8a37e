-- Which lines a gate has, by a stamp on each line: the number of the last gate that has it.
use Rattle.std.specs.Prelude.{◌≡◌, ◌==◌, ℕ, ◌<◌, ◌≤◌, Bool, List, length, slice_index}
use Rattle.std.specs.List.{AllByRecursion}
use Rattle.mct_circuit.specs.Gates.{CircuitView}
use Rattle.mct_circuit.specs.Sizes.{has_line}
use Rattle.circuit_plans.specs.declared.plan.TheConstants.{MOST_LINES, MOST_GATES}

abbrev pub is_stamped : List ℕ → ℕ → ℕ → Bool
is_stamped stamps stamp line = slice_index stamps line == stamp

-- the lines with this stamp are those of the list, and no stamp is greater
pub record AreStamped (stamps : List ℕ) (stamp : ℕ) (lines : List ℕ) : Type 0 where
  pub marked : (line : ℕ) → line < length stamps
      → is_stamped stamps stamp line ≡ has_line line lines
  pub few : AllByRecursion (λ s. s ≤ stamp) stamps

-- a circuit with a line for each name, and for each line a stamp, no greater than the number of
-- gates
pub record FitsNames (names : List (List ℕ)) (circuit : CircuitView)
    (stamps : List ℕ) : Type 0 where
  pub few : length names ≤ MOST_LINES
  pub lines : circuit.lines ≡ length names
  pub limit : circuit.limit ≡ MOST_GATES
  pub room : length stamps ≡ length names
  pub passed : AllByRecursion (λ s. s ≤ length circuit.gates) stamps
