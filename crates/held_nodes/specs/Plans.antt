-- The law of toggles.
use Rattle.mct_circuit.specs.Gates.{AreNarrow}
use Rattle.std.specs.Prelude.{ℕ}
use Rattle.held_nodes.specs.Held.{ForwardView}
use Rattle.held_nodes.specs.Moves.{IsToggled, finished_gates}

-- The law: toggles keep gates narrow, and so does a finish.
pub record TogglesAreNarrow : Type 0 where
  pub toggled : (f next : ForwardView) (k : ℕ) → IsToggled f k next
      → AreNarrow f.gates → AreNarrow next.gates
  pub finished : (f : ForwardView) → AreNarrow f.gates → AreNarrow (finished_gates f)
