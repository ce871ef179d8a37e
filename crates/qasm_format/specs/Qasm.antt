-- What an OpenQASM text means: its tokens lead from the head of a text to the end of a statement.
use Rattle.std.specs.Prelude.{◌≡◌, ℕ, ◌≤◌, List, [], length}
use Rattle.std.specs.List.{AllByRecursion}
use Rattle.mct_circuit.specs.Gates.{GateView, AreGatesOn}
use Rattle.circuit_plans.specs.declared.plan.TheConstants.{MOST_LINES, MOST_GATES}
use Rattle.qasm_format.specs.declared.file.Register.{Register}
use Rattle.qasm_lexer.specs.Tokens.{Left, Moves, whole}
use Rattle.qasm_format.specs.Registers.{IsRegister, HaveDifferentNames, lines_of_all}
use Rattle.qasm_format.specs.Stages.{Said, Stage, starts, head, LeadTo}

-- tokens are taken, and lead from one stage to another
pub record Reads (old new : Left) (from to : Stage) : Type 0 where
  pub tokens : List (List ℕ)
  pub moves : Moves old new tokens
  pub lead : LeadTo tokens from to

-- a file: its registers in the order of their declaration, and the gates on their lines
pub record QasmView : Type 0 where
  pub registers : List Register
  pub gates : List GateView

-- the tokens of the text lead from its head to the end of a statement, and the text ends there
pub record MeansFile (text : List ℕ) (file : QasmView) : Type 0 where
  pub last : Left
  pub said : Said
  pub reads : Reads (whole text) last head (starts said)
  pub ended : last.bytes ≡ []
  pub registers : file.registers ≡ said.registers
  pub gates : file.gates ≡ said.gates
  pub some : 1 ≤ lines_of_all said.registers

-- What each file has: registers of different names with 1 to 16,384 lines in all, and at most
-- 4,000,000 gates on them.
pub record IsFile (file : QasmView) : Type 0 where
  pub some : 1 ≤ lines_of_all file.registers
  pub few : lines_of_all file.registers ≤ MOST_LINES
  pub good : AllByRecursion IsRegister file.registers
  pub different : HaveDifferentNames file.registers
  pub few_gates : length file.gates ≤ MOST_GATES
  pub placed : AreGatesOn (lines_of_all file.registers) file.gates

abbrev pub MeaningsAreFiles : Type 0
MeaningsAreFiles = (text : List ℕ) (file : QasmView) → MeansFile text file → IsFile file
