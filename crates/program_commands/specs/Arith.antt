-- `arith`: a program that computes with numbers, or the file of its clean circuit.
use Rattle.std.specs.Prelude.{◌≡◌, ℕ, ◌≤◌, Bool, List, [], ◌∷◌, length, None}
use Rattle.arith_laws.specs.Computes.{Computes}
use Rattle.arith_templates.specs.Meets.{inputs_of, outputs_of, Meets}
use Rattle.arith_templates.specs.Texts.{text_of}
use Rattle.arith_templates.specs.declared.kind.Kind.TheVariants.{Add}
use Rattle.command_answers.specs.Outcomes.{Promise, budget_promise}
use Rattle.command_answers.specs.declared.fault.Fault.{Fault}
use Rattle.circuit_plans.specs.declared.choice.Plan.TheVariants.{Auto}
use Rattle.circuit_plans.specs.declared.roles.Roles.{Roles}
use Rattle.circuit_plans.specs.declared.roles.Placing.TheVariants.{Added}
use Rattle.circuit_plans.specs.declared.roles.Start.TheVariants.{Zero}
use Rattle.circuit_plans.specs.Plans.{AddsOutput, lines_in}
use Rattle.mct_circuit.specs.Gates.{GateView, AreGatesOn, AreNarrow}
use Rattle.program_commands.specs.Clean.{MeansCompiledIn}
use Rattle.program_commands.specs.Compile.{HasFittingRow, IsCompiled, PassesBudget}
use Rattle.revc_words.specs.Words.{OrderView}
use Rattle.revc_words.specs.declared.commands.Command.TheVariants.{Compile}
use Rattle.revc_words.specs.declared.limits.TheConstants.{USUAL_LINES, USUAL_GATES, USUAL_NODES}
use Rattle.revc_words.specs.declared.order.Aim.TheVariants.{Gates}
use Rattle.revc_words.specs.declared.order.Format.{Format}
use Rattle.revc_words.specs.declared.order.Format.TheVariants as formats
use Rattle.revc_words.specs.declared.order.Way.TheVariants.{Diagrams}
use Rattle.revc_words.specs.declared.order.Write.{Write}
use Rattle.revc_words.specs.declared.order.Write.TheVariants.{Program, Real, Qasm}

-- the text of the program that an order asks for
abbrev pub program_text : OrderView → List ℕ
program_text order = text_of order.kind order.number order.by

-- the order of `compile` where no option is given but the format
abbrev pub compile_order : Format → OrderView
compile_order format = record {
  command = Compile;
  plan = Auto;
  lines = USUAL_LINES;
  gates = USUAL_GATES;
  borrow = 0;
  nodes = USUAL_NODES;
  assume = 0;
  outputs = Added Zero;
  way = Diagrams;
  format = format;
  from = formats.Real;
  to = formats.Qasm;
  aim = Gates;
  kind = Add;
  by = 0;
  write = Program;
  number = 0;
  bits = [];
}

-- ---- what is written

-- the text of a program that is well formed, makes no claim, and computes what its kind says
pub record IsProgramOf (order : OrderView) (written : List ℕ) : Type 0 where
  pub text : written ≡ program_text order
  pub computes : Computes order.kind order.number order.by written

-- On this input, with 0 on the work lines, the gates add to whatever the output lines hold what the
-- kind says of the numbers of the input, and leave the other lines as they were.
pub record AddsNumbers (order : OrderView) (roles : Roles) (gates : List GateView)
    (input : List Bool) : Type 0 where
  pub output : List Bool
  pub size : length output ≡ outputs_of order.kind order.number order.by
  pub meets : Meets order.kind order.number order.by input output
  pub adds : (held : List Bool) → length held ≡ roles.outputs
      → AddsOutput roles gates input held output []

-- The file means a circuit of flips with at most two controls, all positive, which computes what
-- the kind says on every input, within the usual lines and gates; it is the one that `compile`
-- writes for the text of the program.
pub record IsCircuitOf (format : Format) (order : OrderView) (file : List ℕ) : Type 0 where
  pub roles : Roles
  pub gates : List GateView
  pub meaning : MeansCompiledIn format file roles gates
  pub placed : AreGatesOn (lines_in roles) gates
  pub narrow : AreNarrow gates
  pub inputs : roles.inputs ≡ inputs_of order.kind order.number
  pub outputs : roles.outputs ≡ outputs_of order.kind order.number order.by
  pub no_borrowed : roles.borrowed ≡ 0
  pub few_lines : lines_in roles ≤ USUAL_LINES
  pub few_gates : length gates ≤ USUAL_GATES
  pub computes : (input : List Bool) → length input ≡ inputs_of order.kind order.number
      → AddsNumbers order roles gates input
  pub compiled : IsCompiled (compile_order format) (program_text order) file

-- what is written, as it is asked for
abbrev pub IsWrittenAs : Write → OrderView → List ℕ → Type 0
IsWrittenAs Program order written = IsProgramOf order written
IsWrittenAs Real order written = IsCircuitOf formats.Real order written
IsWrittenAs Qasm order written = IsCircuitOf formats.Qasm order written

-- whatever is on the source
abbrev pub Gives : OrderView → List ℕ → List ℕ → Type 0
Gives order text written = IsWrittenAs order.write order written

-- ---- why nothing is

-- a program always is; a circuit is not where `compile` passes a budget for the text of the program
abbrev pub StopsAs : Write → OrderView → Fault → Type 0
StopsAs Program order fault = ⊥
StopsAs Real order fault = PassesBudget (compile_order formats.Real) (program_text order) fault
StopsAs Qasm order fault = PassesBudget (compile_order formats.Qasm) (program_text order) fault

abbrev pub IsCause : OrderView → List ℕ → Fault → Type 0
IsCause order text fault = StopsAs order.write order fault

-- ---- where something is, unless memory or a device is wanting

-- for a program always; for a circuit where some row of the budget numbers fits the usual lines and
-- gates
abbrev pub ServesAs : Write → OrderView → Type 0
ServesAs Program order = Unit {0}
ServesAs Real order = HasFittingRow (compile_order formats.Real) (program_text order)
ServesAs Qasm order = HasFittingRow (compile_order formats.Qasm) (program_text order)

abbrev pub Serves : OrderView → List ℕ → Type 0
Serves order text = ServesAs order.write order

abbrev pub promise : Promise
promise = budget_promise None (6 ∷ 7 ∷ []) Gives IsCause Serves
