-- `compile`: the file of a program's clean circuit.
use Rattle.std.specs.Prelude.{◌≡◌, ◌⊎◌, ℕ, ◌+◌, ◌*◌, ◌≤◌, List, length, max}
use Rattle.claim_check.specs.Budgets.{Measures}
use Rattle.claim_check.specs.Measures.{AreMeasuresOf, IsNoLarger}
use Rattle.claim_check.specs.Settled.{SettledView, IsSettledOf}
use Rattle.circuit_plans.specs.declared.roles.Placing.TheVariants.{Added}
use Rattle.circuit_plans.specs.declared.roles.Roles.{Roles}
use Rattle.circuit_plans.specs.Plans.{BudgetView, LaidView, lines_in, roles_of, start_of}
use Rattle.mct_circuit.specs.Gates.{GateView}
use Rattle.copied_plans.specs.Levels.{and_depth}
use Rattle.mct_circuit.specs.Sizes.{counts_of, toffoli_depth_of}
use Rattle.circuit_plans.specs.declared.choice.Plan.{Plan}
use Rattle.circuit_plans.specs.declared.choice.Plan.TheVariants.{Auto, Compact, Eager, Lean, Pebble, Shallow}
use Rattle.flip_orders.specs.Orders.{AreReordered}
use Rattle.plan_choice.specs.Choices.{HasFewLines, HasFewGates, IsChosen, SomeRowFits}
use Rattle.revs_tape.specs.Measures.{ands_of, inputs_of, outputs_of, writes_of}
use Rattle.revs_tape.specs.Tapes.{TapeView}
use Rattle.revc_words.specs.Words.{OrderView}
use Rattle.revs_parser.specs.WellFormed.{IsWellFormed}
use Rattle.revs_terms.specs.Views.{ProgramView}
use Rattle.command_answers.specs.declared.fault.Fault.{Fault}
use Rattle.command_answers.specs.declared.fault.Fault.TheVariants.{Lines, Gates}
use Rattle.program_texts.specs.Clean.{IsCleanCircuit}
use Rattle.program_commands.specs.Clean.{IsClean, file_text}
use Rattle.program_texts.specs.Settling.{LeavesSettled, LeavesTape, StopsSettling}

-- the budget that an order gives
abbrev pub budget_of : OrderView → BudgetView
budget_of order =
    record { lines = order.lines; gates = order.gates; borrow = order.borrow }

-- the lean row of a run: a line for each input, output, write and borrowed bit, and 58 gates for
-- each write and 5 for each output
abbrev pub row_lines : TapeView → OrderView → ℕ
row_lines tape order = inputs_of tape + outputs_of tape + writes_of tape + order.borrow

abbrev pub row_gates : TapeView → ℕ
row_gates tape = 58 * writes_of tape + 5 * outputs_of tape

-- both its numbers fit the budgets
pub record LeanRowFits (order : OrderView) (tape : TapeView) : Type 0 where
  pub lines : row_lines tape order ≤ order.lines
  pub gates : row_gates tape ≤ order.gates

-- The law of Toffoli gates: under the plans `lean` and `compact`, where the lean row fits, there
-- are at most two Toffoli gates (flips with two controls) for each AND that the program's run
-- writes.
pub record HasFewToffoliGates (order : OrderView) (tape : TapeView) (gates : List GateView)
    : Type 0 where
  pub few : (order.plan ≡ Lean) ⊎ (order.plan ≡ Compact) → LeanRowFits order tape
      → (counts_of gates).ccx ≤ 2 * ands_of tape

-- The law of lean sizes: under the plan `lean` there are no more lines than those of the lean row,
-- and where it fits, no more than twice its gates.
pub record HasLeanSize (order : OrderView) (tape : TapeView) (lines gates : ℕ) : Type 0 where
  pub few_lines : order.plan ≡ Lean → lines ≤ row_lines tape order
  pub few_gates : order.plan ≡ Lean → LeanRowFits order tape → gates ≤ 2 * row_gates tape

-- The shallow row of a run fits the budgets: a line for each input, output and borrowed bit and
-- three for each write; and eight gates for each write and one for each output.
pub record ShallowRowFits (order : OrderView) (tape : TapeView) : Type 0 where
  pub lines :
      inputs_of tape + outputs_of tape + 3 * writes_of tape + order.borrow ≤ order.lines
  pub gates : 8 * writes_of tape + outputs_of tape ≤ order.gates

-- The law of depth: under the plan `shallow`, where the shallow row fits, the Toffoli depth is at
-- most twice the AND depth of the settled graph.
pub record HasSmallDepth (order : OrderView) (tape : TapeView) (graph : SettledView)
    (gates : List GateView) : Type 0 where
  pub small : order.plan ≡ Shallow → ShallowRowFits order tape
      → toffoli_depth_of gates ≤ 2 * and_depth graph.nodes

-- The gates of a plan as they are written: under `lean` and `compact` in another order, with the
-- same line map, no deeper and of no greater Toffoli depth; else as they are.
abbrev pub AreWrittenFor : Plan → List GateView → List GateView → Type 0
AreWrittenFor Auto laid gates = gates ≡ laid
AreWrittenFor Compact laid gates = AreReordered laid gates
AreWrittenFor Eager laid gates = gates ≡ laid
AreWrittenFor Lean laid gates = AreReordered laid gates
AreWrittenFor Pebble laid gates = gates ≡ laid
AreWrittenFor Shallow laid gates = gates ≡ laid

-- These lines are those of a plan that the order asks for, and the gates are its gates as they are
-- written. The plan is one of a settled graph of the tape: an eager one within the graph's eager
-- numbers; a pebbling within the numbers of the largest block that fits, which comes without
-- `--plan` only where the eager numbers do not fit; a plan of its lean graph, of few Toffoli gates;
-- or under `shallow` a plan of it, of narrow gates and of small Toffoli depth.
pub record IsPlannedAs (order : OrderView) (tape : TapeView) (roles : Roles)
    (gates : List GateView) : Type 0 where
  pub graph : SettledView
  pub graph_of : IsSettledOf tape graph
  pub no_larger : IsNoLarger tape graph
  pub laid : LaidView
  pub roles_are : roles ≡ roles_of laid
  pub lines_are : lines_in roles ≡ laid.circuit.lines
  pub gates_are : AreWrittenFor order.plan laid.circuit.gates gates
  pub chosen : IsChosen order.plan graph (budget_of order) laid
  pub few_toffoli_gates : HasFewToffoliGates order tape gates
  pub lean_size : HasLeanSize order tape (lines_in roles) (length gates)
  pub small_depth : HasSmallDepth order tape graph gates

-- The text is well formed, and that of one program, which leaves this tape and whose claims hold on
-- the inputs that meet the first so many, within the nodes; the gates are a clean circuit for it on
-- every input, from what the order's plan allows on the output lines, with its borrowed lines,
-- within its budgets, and of a plan that it allows.
pub record HasCircuit (order : OrderView) (text : List ℕ) (tape : TapeView) (roles : Roles)
    (gates : List GateView) : Type 0 where
  pub settled : LeavesSettled text order.assume order.nodes tape
  pub only : (p : ProgramView) → IsWellFormed text p → p ≡ settled.left.program
  pub clean : IsCleanCircuit settled.left.program 0 (Added (start_of order.plan)) order.borrow
      roles gates
  pub few_lines : lines_in roles ≤ order.lines
  pub few_gates : length gates ≤ order.gates
  pub planned : IsPlannedAs order tape roles gates

-- The text is well formed, and that of one program, whose claims hold on the inputs that meet the
-- first so many, within the nodes; the file is a clean one for it on every input, in the order's
-- format, from what the order's plan allows on the output lines, with its borrowed lines and within
-- its budgets, and the text of its gates, which the plan allows.
pub record IsCompiled (order : OrderView) (text file : List ℕ) : Type 0 where
  pub tape : TapeView
  pub settled : LeavesSettled text order.assume order.nodes tape
  pub only : (p : ProgramView) → IsWellFormed text p → p ≡ settled.left.program
  pub clean : IsClean order.format file settled.left.program (start_of order.plan) order.borrow
  pub few_lines : lines_in clean.roles ≤ order.lines
  pub few_gates : length clean.gates ≤ order.gates
  pub planned : IsPlannedAs order tape clean.roles clean.gates
  pub written : file ≡ file_text order.format clean.roles clean.gates

-- a line for each input, output and borrowed bit
abbrev pub least_lines : TapeView → OrderView → ℕ
least_lines tape order = inputs_of tape + outputs_of tape + order.borrow

-- The claims hold, and by the measures of the program's tape the budget has too few lines, and no
-- row that the order allows fits. Needed are at least the inputs, outputs and borrowed lines, and
-- one line more than the limit.
pub record PassesLines (order : OrderView) (text : List ℕ) (need limit : ℕ) : Type 0 where
  pub tape : TapeView
  pub settled : LeavesSettled text order.assume order.nodes tape
  pub few : (m : Measures) → AreMeasuresOf tape m → HasFewLines order.plan (budget_of order) m
  pub no_row : (m : Measures) → AreMeasuresOf tape m
      → ¬ SomeRowFits order.plan (budget_of order) m
  pub needed : need ≡ max (least_lines tape order) (limit + 1)
  pub limit_is : limit ≡ order.lines

-- The claims hold, and by the measures of the program's tape the budget has too few gates, and no
-- row that the order allows fits.
pub record PassesGates (order : OrderView) (text : List ℕ) (limit : ℕ) : Type 0 where
  pub tape : TapeView
  pub settled : LeavesSettled text order.assume order.nodes tape
  pub few : (m : Measures) → AreMeasuresOf tape m → HasFewGates order.plan (budget_of order) m
  pub no_row : (m : Measures) → AreMeasuresOf tape m
      → ¬ SomeRowFits order.plan (budget_of order) m
  pub limit_is : limit ≡ order.gates

-- the claims hold, and by the measures of the program's tape a row that the order allows fits the
-- budgets
pub record KeepsBudget (order : OrderView) (text : List ℕ) : Type 0 where
  pub tape : TapeView
  pub settled : LeavesSettled text order.assume order.nodes tape
  pub measures : Measures
  pub are : AreMeasuresOf tape measures
  pub fits : SomeRowFits order.plan (budget_of order) measures

-- the text is well formed, and by the measures of its program's tape a row that the order allows
-- fits the budgets
pub record HasFittingRow (order : OrderView) (text : List ℕ) : Type 0 where
  pub tape : TapeView
  pub left : LeavesTape text tape
  pub measures : Measures
  pub are : AreMeasuresOf tape measures
  pub fits : SomeRowFits order.plan (budget_of order) measures

-- why a text that is well formed and makes no claim has no circuit: a budget is passed
abbrev pub PassesBudget : OrderView → List ℕ → Fault → Type 0
PassesBudget order text (Lines need limit) = PassesLines order text need limit
PassesBudget order text (Gates limit) = PassesGates order text limit
PassesBudget order text fault = ⊥

-- what is written
abbrev pub Gives : OrderView → List ℕ → List ℕ → Type 0
Gives order text written = IsCompiled order text written

-- why nothing is: the text is refused, a claim stops, or a budget is passed
abbrev pub IsCause : OrderView → List ℕ → Fault → Type 0
IsCause order text (Lines need limit) = PassesLines order text need limit
IsCause order text (Gates limit) = PassesGates order text limit
IsCause order text fault = StopsSettling text order.assume order.nodes fault

-- where something is, unless memory or a device is wanting: the claims hold where the assumed ones
-- do, within the nodes, and some row of the budget numbers that the order allows fits
abbrev pub Serves : OrderView → List ℕ → Type 0
Serves order text = KeepsBudget order text
