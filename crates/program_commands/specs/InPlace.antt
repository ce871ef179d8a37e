-- `compile --outputs inputs`: the file of a circuit that puts a program's outputs on the lines of
-- its inputs.
use Rattle.std.specs.Prelude.{◌≡◌, ℕ, ◌<◌, ◌≤◌, List, length}
use Rattle.circuit_plans.specs.declared.roles.Placing.TheVariants.{InPlace}
use Rattle.circuit_plans.specs.declared.roles.Roles.{Roles}
use Rattle.circuit_plans.specs.Plans.{lines_in}
use Rattle.command_answers.specs.declared.fault.Fault.{Fault}
use Rattle.command_answers.specs.declared.fault.Fault.TheVariants.{FewOutputs, NoCircuit}
use Rattle.mct_circuit.specs.Gates.{GateView}
use Rattle.program_commands.specs.Clean.{MeansCompiledIn, file_text}
use Rattle.program_texts.specs.Clean.{IsCleanCircuit}
use Rattle.program_texts.specs.Settling.{LeavesSettled, StopsSettling}
use Rattle.revc_words.specs.Words.{OrderView}
use Rattle.revs_parser.specs.WellFormed.{IsWellFormed}
use Rattle.revs_tape.specs.Measures.{inputs_of, outputs_of}
use Rattle.revs_tape.specs.Tapes.{TapeView}
use Rattle.revs_terms.specs.Views.{ProgramView}

-- The text is well formed, and that of one program, whose claims hold on the inputs that meet the
-- first so many, within the nodes, and that has as many outputs as inputs at least; by the meaning
-- of the order's format the file is a circuit that puts the program's outputs on the lines of these
-- inputs, with the order's borrowed lines and within its budgets, and the text of its gates.
pub record IsCompiledInPlace (order : OrderView) (text file : List ℕ) : Type 0 where
  pub tape : TapeView
  pub settled : LeavesSettled text order.assume order.nodes tape
  pub only : (p : ProgramView) → IsWellFormed text p → p ≡ settled.left.program
  pub enough : inputs_of tape ≤ outputs_of tape
  pub roles : Roles
  pub gates : List GateView
  pub meaning : MeansCompiledIn order.format file roles gates
  pub clean : IsCleanCircuit settled.left.program order.assume InPlace order.borrow roles gates
  pub few_lines : lines_in roles ≤ order.lines
  pub few_gates : length gates ≤ order.gates
  pub written : file ≡ file_text order.format roles gates

-- the claims hold, and there is an input that no output replaces
pub record LacksOutputs (order : OrderView) (text : List ℕ) (inputs outputs : ℕ) : Type 0 where
  pub tape : TapeView
  pub settled : LeavesSettled text order.assume order.nodes tape
  pub inputs_are : inputs ≡ inputs_of tape
  pub outputs_are : outputs ≡ outputs_of tape
  pub few : outputs < inputs

-- the claims hold, and there are as many outputs as inputs; whether there is a circuit in place
-- within the budgets, nothing says
pub record FindsNone (order : OrderView) (text : List ℕ) : Type 0 where
  pub tape : TapeView
  pub settled : LeavesSettled text order.assume order.nodes tape
  pub enough : inputs_of tape ≤ outputs_of tape

-- why there is no file: the text is refused, a claim stops, outputs are lacking, or none was found
abbrev pub StopsInPlace : OrderView → List ℕ → Fault → Type 0
StopsInPlace order text (FewOutputs inputs outputs) = LacksOutputs order text inputs outputs
StopsInPlace order text NoCircuit = FindsNone order text
StopsInPlace order text fault = StopsSettling text order.assume order.nodes fault
