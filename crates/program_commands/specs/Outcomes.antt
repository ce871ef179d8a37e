-- What the calls of these commands take and answer.
use Rattle.std.specs.Prelude.{ℕ, ◌≤◌, List, [], length}
use Rattle.circuit_plans.specs.declared.plan.TheConstants.{MOST_LINES, MOST_GATES}
use Rattle.circuit_plans.specs.Plans.{LaidView, roles_of}
use Rattle.arith_templates.specs.declared.limits.TheConstants.{MOST_BITS}
use Rattle.command_answers.specs.declared.fault.Fault.{Fault}
use Rattle.command_answers.specs.declared.fault.Fault.TheVariants as faults
use Rattle.command_answers.specs.declared.fault.Fault.TheVariants.{Memory}
use Rattle.revc_words.specs.declared.order.Format.{Format}
use Rattle.revc_words.specs.Words.{OrderView}
use Rattle.program_commands.specs.Arith as arith
use Rattle.program_commands.specs.Clean.{file_text}
use Rattle.program_commands.specs.Compile.{PassesBudget, PassesLines, PassesGates}
use Rattle.program_commands.specs.declared.arith.Made.{Made}
use Rattle.program_commands.specs.declared.arith.Made.TheVariants.{Program, File}
use Rattle.program_texts.specs.Settling.{StopsSettling}

-- an adder of so many bits is made
pub record IsAdderSize (number : ℕ) : Type 0 where
  pub some : 1 ≤ number
  pub few : number ≤ MOST_BITS

-- the file of a laid plan in a format
abbrev pub file_of : Format → LaidView → List ℕ
file_of format laid = file_text format (roles_of laid) laid.circuit.gates

-- a circuit that is written has a line, and keeps the limits of the format
pub record IsWritable (laid : LaidView) : Type 0 where
  pub some : 1 ≤ laid.circuit.lines
  pub few : laid.circuit.lines ≤ MOST_LINES
  pub few_gates : length laid.circuit.gates ≤ MOST_GATES

-- why a text has no clean plan, or there was no memory left
abbrev pub IsCompileFault : OrderView → List ℕ → Fault → Type 0
IsCompileFault order text (Memory _) = Unit {0}
IsCompileFault order text (faults.Lines need limit) = PassesLines order text need limit
IsCompileFault order text (faults.Gates limit) = PassesGates order text limit
IsCompileFault order text fault = StopsSettling text order.assume order.nodes fault

-- why a text that is well formed and makes no claim has no clean plan, or there was no memory left
abbrev pub IsBudgetFault : OrderView → List ℕ → Fault → Type 0
IsBudgetFault order text (Memory _) = Unit {0}
IsBudgetFault order text fault = PassesBudget order text fault

-- the text of what `arith` makes
abbrev pub made_text : Made → List ℕ
made_text (Program text) = text.items
made_text (File format laid) = file_of format laid

abbrev pub CanBeWritten : Made → Type 0
CanBeWritten (Program text) = Unit {0}
CanBeWritten (File format laid) = IsWritable laid

-- why `arith` makes nothing, or there was no memory left
abbrev pub IsArithFault : OrderView → Fault → Type 0
IsArithFault order (Memory _) = Unit {0}
IsArithFault order fault = arith.IsCause order [] fault
