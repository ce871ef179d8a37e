-- Circuits in place that are found for a tape, and why there is none.
use Rattle.std.specs.Prelude.{◌≡◌, ℕ, ◌+◌, List}
use Rattle.circuit_plans.specs.Plans.{LaidView}
use Rattle.command_answers.specs.declared.fault.Fault.{Fault}
use Rattle.command_answers.specs.declared.fault.Fault.TheVariants.{Memory}
use Rattle.in_place_circuits.specs.Found.{IsFound}
use Rattle.mct_circuit.specs.Gates.{AreGatesOn}
use Rattle.program_commands.specs.Compile.{budget_of}
use Rattle.program_commands.specs.InPlace.{StopsInPlace}
use Rattle.program_texts.specs.Settling.{LeavesSettled}
use Rattle.revc_words.specs.Words.{OrderView}
use Rattle.revs_tape.specs.Tapes.{IsTape, TapeView}

-- a circuit in place is found for the text
pub record IsPlacedFor (order : OrderView) (text : List ℕ) (tape : TapeView) (laid : LaidView)
    : Type 0 where
  pub settled : LeavesSettled text order.assume order.nodes tape
  pub keeps : IsTape tape
  pub found : IsFound tape order.assume (budget_of order) laid
  pub on : AreGatesOn laid.circuit.lines laid.circuit.gates
  pub sum_of : laid.inputs + laid.outputs + laid.work + laid.borrowed ≡ laid.circuit.lines

-- why there is no circuit in place, or there was no memory left
abbrev pub IsInPlaceFault : OrderView → List ℕ → Fault → Type 0
IsInPlaceFault order text (Memory _) = Unit {0}
IsInPlaceFault order text fault = StopsInPlace order text fault
