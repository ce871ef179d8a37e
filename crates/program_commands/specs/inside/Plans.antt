-- From a text to a plan that may be written as a clean file, and why there is none.
use Rattle.std.specs.Prelude.{◌≡◌, ℕ, ◌+◌, ◌≤◌, List, length}
use Rattle.claim_check.specs.Settled.{SettledView, IsSettledOf}
use Rattle.circuit_plans.specs.declared.plan.TheConstants.{MOST_LINES, MOST_GATES}
use Rattle.circuit_plans.specs.Plans.{BudgetView, LaidView, roles_of, start_of}
use Rattle.circuit_plans.specs.declared.roles.Start.{Start}
use Rattle.circuit_plans.specs.Plans.{wanted_lines}
use Rattle.mct_circuit.specs.Gates.{AreGatesOn, AreNarrow}
use Rattle.circuit_plans.specs.declared.choice.Plan.{Plan}
use Rattle.plan_choice.specs.Choices.{GatesAreFew, IsChosen, IsLaidFor, LinesAreFew}
use Rattle.revs_tape.specs.Tapes.{TapeView}
use Rattle.revc_words.specs.Words.{OrderView}
use Rattle.revs_terms.specs.Runs.{IsTapeOf}
use Rattle.revs_terms.specs.Views.{ProgramView}
use Rattle.command_answers.specs.declared.fault.Fault.{Fault}
use Rattle.command_answers.specs.declared.fault.Fault.TheVariants.{Lines, Gates, Memory}
use Rattle.program_commands.specs.Compile.{AreWrittenFor, HasCircuit}
use Rattle.program_commands.specs.Outcomes.{IsWritable}

-- a plan of a program's settled graph, within a budget
pub record IsCleanPlan (start : Start) (laid : LaidView) (p : ProgramView) (b : BudgetView)
    : Type 0 where
  pub tape : TapeView
  pub tape_of : IsTapeOf p.params p.body tape
  pub graph : SettledView
  pub graph_of : IsSettledOf tape graph
  pub plan : IsLaidFor start graph b laid
  pub some : 1 ≤ laid.circuit.lines
  pub most_lines : b.lines ≤ MOST_LINES
  pub most_gates : b.gates ≤ MOST_GATES

-- a plan of the settled graph that is allowed, within the budget: its gates are narrow, and on its
-- lines, which are those of its roles
pub record IsPlanOf (plan : Plan) (graph : SettledView) (b : BudgetView) (laid : LaidView)
    : Type 0 where
  pub is : IsLaidFor (start_of plan) graph b laid
  pub chosen : IsChosen plan graph b laid
  pub sum_of : laid.inputs + laid.outputs + laid.work + laid.borrowed ≡ laid.circuit.lines
  pub on : AreGatesOn laid.circuit.lines laid.circuit.gates
  pub narrow : AreNarrow laid.circuit.gates

-- The plan is a circuit for the text that the order allows, and it may be written: its gates are on
-- its lines, which are those of its roles.
pub record IsPlannedFor (order : OrderView) (text : List ℕ) (tape : TapeView) (laid : LaidView)
    : Type 0 where
  pub circuit : HasCircuit order text tape (roles_of laid) laid.circuit.gates
  pub can : IsWritable laid
  pub sum_of : laid.inputs + laid.outputs + laid.work + laid.borrowed ≡ laid.circuit.lines
  pub on : AreGatesOn laid.circuit.lines laid.circuit.gates

-- the same plan with its gates as they are written
pub record IsOrderedPlan (plan : Plan) (old new : LaidView) : Type 0 where
  pub roles : roles_of new ≡ roles_of old
  pub lines : new.circuit.lines ≡ old.circuit.lines
  pub gates : AreWrittenFor plan old.circuit.gates new.circuit.gates

-- why a settled graph has no plan within the budget, or there was no memory left
abbrev pub IsPlanningFault : Plan → SettledView → BudgetView → Fault → Type 0
IsPlanningFault plan s b (Lines need limit) =
    LinesAreFew plan s b × (need ≡ wanted_lines (s.inputs + length s.outputs) b) × (limit ≡ b.lines)
IsPlanningFault plan s b (Gates limit) = GatesAreFew plan s b × (limit ≡ b.gates)
IsPlanningFault plan s b (Memory _) = Unit {0}
IsPlanningFault plan s b _ = ⊥
