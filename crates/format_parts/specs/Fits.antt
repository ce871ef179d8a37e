-- The gates that a format has a file of.
use Rattle.std.specs.Prelude.{ℕ, ◌≤◌, List, length}
use Rattle.circuit_plans.specs.declared.plan.TheConstants.{MOST_LINES, MOST_GATES}
use Rattle.mct_circuit.specs.Gates.{GateView, AreGatesOn, AreNarrow}

-- narrow gates on so many lines, within the limits
pub record FitAFile (lines : ℕ) (gates : List GateView) : Type 0 where
  pub some : 1 ≤ lines
  pub few : lines ≤ MOST_LINES
  pub few_gates : length gates ≤ MOST_GATES
  pub placed : AreGatesOn lines gates
  pub narrow : AreNarrow gates
