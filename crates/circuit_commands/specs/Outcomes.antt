-- What the calls of the commands on circuits answer.
use Rattle.std.specs.Prelude.{ℕ, Bool, List}
use Rattle.command_answers.specs.declared.fault.Fault.{Fault}
use Rattle.command_answers.specs.declared.fault.Fault.TheVariants.{Circuit, Lines, Gates, BadBits, Memory}
use Rattle.revc_words.specs.declared.order.Format.{Format}
use Rattle.circuit_commands.specs.Circuits.{ReadCircuit, IsCircuitRefusal}
use Rattle.circuit_commands.specs.Run.{AreInputs, HasBadWord, IsFirstUnfit}
use Rattle.circuit_commands.specs.Convert.{IsNarrowFile, Narrowing, PassesLines, PassesGates, file_text}

-- why a text means no circuit, or there was no memory left
abbrev pub IsCircuitFault : Format → List ℕ → Fault → Type 0
IsCircuitFault from text (Circuit refusal) = IsCircuitRefusal from text refusal
IsCircuitFault from text (Memory _) = Unit {0}
IsCircuitFault from text _ = ⊥

-- why words give no bits: this word is the first that is no input of the circuit, or there was no
-- memory left, which is asked for only where each word is an input
abbrev pub IsWordsFault : ReadCircuit → List (List ℕ) → Fault → Type 0
IsWordsFault circuit words (BadBits number) = IsFirstUnfit circuit words number
IsWordsFault circuit words (Memory _) = AreInputs circuit words
IsWordsFault circuit words _ = ⊥

-- why a circuit text and words give no bits, or there was no memory left
abbrev pub IsRunFault : Format → List (List ℕ) → List ℕ → Fault → Type 0
IsRunFault from words text (Circuit refusal) = IsCircuitRefusal from text refusal
IsRunFault from words text (BadBits number) = HasBadWord from words text number
IsRunFault from words text (Memory _) = Unit {0}
IsRunFault from words text _ = ⊥

-- a circuit that waits to be written, and whether its last line was added
pub record ConvertedView : Type 0 where
  pub circuit : ReadCircuit
  pub added : Bool

-- the file that waits is, in each format, that of gates that are made so of the text's circuit
pub record IsConversion (Makes : Narrowing) (from : Format) (text : List ℕ)
    (made : ConvertedView) : Type 0 where
  pub in_each : (to : Format)
      → IsNarrowFile Makes from to text (file_text to made.circuit made.added)

-- why a circuit text has no split list of at most so many gates, or there was no memory left
abbrev pub IsConvertFault : (most : ℕ) → Format → List ℕ → Fault → Type 0
IsConvertFault most from text (Circuit refusal) = IsCircuitRefusal from text refusal
IsConvertFault most from text (Lines need limit) = PassesLines most from text need limit
IsConvertFault most from text (Gates limit) = PassesGates most from text limit
IsConvertFault most from text (Memory _) = Unit {0}
IsConvertFault most from text _ = ⊥
