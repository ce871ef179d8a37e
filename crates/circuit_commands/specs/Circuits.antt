-- Circuit texts as the commands read them, whatever their format.
use Rattle.std.specs.Prelude.{◌≡◌, ℕ, ◌<◌, ◌≤◌, Bool, false, List, length, replicate}
use Rattle.mct_circuit.specs.Gates.{GateView}
use Rattle.real_format.specs.declared.file.Mark.{Mark}
use Rattle.real_format.specs.declared.file.Mark.TheVariants.{Free}
use Rattle.real_format.specs.declared.file.RealFault.TheVariants as reals
use Rattle.real_format.specs.Faults as real
use Rattle.real_format.specs.Real.{RealView}
use Rattle.real_format.specs.Real as real_files
use Rattle.qasm_format.specs.declared.file.QasmFault.TheVariants as qasms
use Rattle.qasm_format.specs.Registers.{lines_of_all}
use Rattle.qasm_format.specs.Faults as qasm
use Rattle.qasm_format.specs.Qasm.{QasmView}
use Rattle.qasm_format.specs.Qasm as qasm_files
use Rattle.revc_words.specs.declared.order.Format.{Format}
use Rattle.revc_words.specs.declared.order.Format.TheVariants.{Real, Qasm}
use Rattle.command_answers.specs.declared.fault.CircuitRefusal.{CircuitRefusal}
use Rattle.command_answers.specs.declared.fault.CircuitRefusal.TheVariants.{TooLong, Line, LineLimit, Token, TokenLimit}
use Rattle.command_answers.specs.declared.fault.Fault.TheVariants.{Circuit}
use Rattle.command_answers.specs.declared.limit.TextLimit.{TextLimit}
use Rattle.circuit_commands.specs.declared.limits.TheConstants.{MOST_CIRCUIT_BYTES}

-- the limit of the text of a circuit
abbrev pub circuit_limit : TextLimit
circuit_limit = record { bytes = MOST_CIRCUIT_BYTES; fault = Circuit TooLong }

-- ---- circuits

-- a circuit that was read: for each line the bit with which it starts, and whether its last bit is
-- of no use; then the gates
pub record ReadCircuit : Type 0 where
  pub constants : List Mark
  pub garbage : List Bool
  pub gates : List GateView

-- the circuit of lines with these marks
abbrev pub marked : (constants : List Mark) → (garbage : List Bool) → List GateView → ReadCircuit
marked constants garbage gates =
    record { constants = constants; garbage = garbage; gates = gates }

-- the number of its lines
abbrev pub line_count : ReadCircuit → ℕ
line_count circuit = length circuit.constants

-- the circuit of gates on so many lines without marks: each starts with any bit, and all last bits
-- are of use
abbrev pub unmarked : ℕ → List GateView → ReadCircuit
unmarked lines gates = marked (replicate lines Free) (replicate lines false) gates

-- the circuit of a `.real` file
abbrev pub of_real : RealView → ReadCircuit
of_real file = marked file.constants file.garbage file.gates

-- the circuit of an OpenQASM file, which has no marks
abbrev pub of_qasm : QasmView → ReadCircuit
of_qasm file = unmarked (lines_of_all file.registers) file.gates

-- ---- what texts mean

pub record MeansReal (text : List ℕ) (circuit : ReadCircuit) : Type 0 where
  pub file : RealView
  pub meaning : real_files.MeansFile text file
  pub same : circuit ≡ of_real file

pub record MeansQasm (text : List ℕ) (circuit : ReadCircuit) : Type 0 where
  pub file : QasmView
  pub meaning : qasm_files.MeansFile text file
  pub same : circuit ≡ of_qasm file

-- the text means this circuit by the meaning of the format
abbrev pub MeansIn : Format → List ℕ → ReadCircuit → Type 0
MeansIn Real text circuit = MeansReal text circuit
MeansIn Qasm text circuit = MeansQasm text circuit

-- the text is within the limit of bytes, and means this circuit
pub record Means (from : Format) (text : List ℕ) (circuit : ReadCircuit) : Type 0 where
  pub short : length text ≤ MOST_CIRCUIT_BYTES
  pub meaning : MeansIn from text circuit

-- ---- why they mean nothing

-- why a text means no circuit by the meaning of a format: at a line of a `.real` text, at a token
-- of an OpenQASM text
abbrev pub IsRefusalIn : Format → List ℕ → CircuitRefusal → Type 0
IsRefusalIn from text TooLong = ⊥
IsRefusalIn Real text (Line number) = real.IsTextFault text (reals.Line number)
IsRefusalIn Real text (LineLimit number) = real.IsTextFault text (reals.Limit number)
IsRefusalIn Real text (Token at) = ⊥
IsRefusalIn Real text (TokenLimit at) = ⊥
IsRefusalIn Qasm text (Line number) = ⊥
IsRefusalIn Qasm text (LineLimit number) = ⊥
IsRefusalIn Qasm text (Token at) = qasm.IsTextFault text (qasms.Token at)
IsRefusalIn Qasm text (TokenLimit at) = qasm.IsTextFault text (qasms.Limit at)

-- the text is within the limit of bytes, and refused by the meaning of the format
pub record IsRefusedIn (from : Format) (text : List ℕ) (refusal : CircuitRefusal) : Type 0 where
  pub short : length text ≤ MOST_CIRCUIT_BYTES
  pub cause : IsRefusalIn from text refusal

-- why a text means no circuit in a format
abbrev pub IsCircuitRefusal : Format → List ℕ → CircuitRefusal → Type 0
IsCircuitRefusal from text TooLong = MOST_CIRCUIT_BYTES < length text
IsCircuitRefusal from text (Line number) = IsRefusedIn from text (Line number)
IsCircuitRefusal from text (LineLimit number) = IsRefusedIn from text (LineLimit number)
IsCircuitRefusal from text (Token at) = IsRefusedIn from text (Token at)
IsCircuitRefusal from text (TokenLimit at) = IsRefusedIn from text (TokenLimit at)
