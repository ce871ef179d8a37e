-- Why two parts of a source are not verified, or there was no memory left.
use Rattle.std.specs.Prelude.{ℕ, List}
use Rattle.claim_assumptions.specs.Assumptions.{premise}
use Rattle.circuit_verify.specs.Comparisons.{Comparison, beside, of_tape}
use Rattle.circuit_verify.specs.Verdicts.{IsComparable}
use Rattle.command_answers.specs.declared.fault.Fault.{Fault}
use Rattle.command_answers.specs.declared.fault.Fault.TheVariants.{Memory}
use Rattle.mct_circuit.specs.Gates.{CircuitView}
use Rattle.revc_words.specs.Words.{OrderView}
use Rattle.revs_tape.specs.Tapes.{TapeView}
use Rattle.verify_command.specs.Outcomes.{AreShort}
use Rattle.verify_command.specs.Verify.{StopsComparing, StopsParts}

-- memory is wanted only where neither part is too long
abbrev pub IsPartsFault : OrderView → List ℕ → List ℕ → Fault → Type 0
IsPartsFault order program circuit (Memory _) = AreShort program circuit
IsPartsFault order program circuit fault = StopsParts order fault program circuit

-- a circuit beside the tape of a program, as the order asks
abbrev pub comparison_with : OrderView → TapeView → CircuitView → Comparison
comparison_with order tape circuit =
    beside (of_tape tape) (of_tape (premise order.assume tape)) circuit order.outputs order.borrow

-- why the two are not verified, or there was no memory left where they can be compared
abbrev pub IsComparingFault : OrderView → Fault → Comparison → Type 0
IsComparingFault order (Memory _) q = IsComparable q
IsComparingFault order fault q = StopsComparing order fault q
