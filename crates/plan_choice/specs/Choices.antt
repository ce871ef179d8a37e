-- Which budgets are enough for a choice of plans, and what is laid.
use Rattle.std.specs.Prelude.{◌≡◌, ℕ, suc, ◌+◌, ◌*◌, ◌^◌, ◌<◌, ◌≤◌, ◌⊎◌, length}
use Rattle.revs_tape.specs.Levels.{IsLevels}
use Rattle.claim_check.specs.Budgets.{Measures, plain_lines, plain_gates, fine_lines, fine_gates}
use Rattle.claim_check.specs.Budgets.{block_lines, block_gates, eager_lines, eager_gates}
use Rattle.claim_check.specs.Budgets.{lean_lines, lean_gates}
use Rattle.claim_check.specs.Measures.{IsWithin}
use Rattle.claim_check.specs.Settled.{SettledView, settled_outputs}
use Rattle.circuit_plans.specs.declared.plan.PlanFault.{PlanFault}
use Rattle.circuit_plans.specs.declared.plan.PlanFault.TheVariants.{Lines, Gates, Memory}
use Rattle.circuit_plans.specs.declared.roles.Start.{Start}
use Rattle.circuit_plans.specs.declared.roles.Start.TheVariants.{Any, Zero}
use Rattle.circuit_plans.specs.Plans.{AddsOutputs, BudgetView, LaidView, roles_of}
use Rattle.sum_graph.specs.Graphs.{first_work}
use Rattle.circuit_plans.specs.Plans.{HasPortLines, wanted_lines}
use Rattle.copied_plans.specs.Levels.{and_depth}
use Rattle.mct_circuit.specs.Gates.{AreNarrow}
use Rattle.mct_circuit.specs.Sizes.{toffoli_depth_of}
use Rattle.eager_cleanup.specs.Eager.{AreWithinEager, ports_of}
use Rattle.bennett_pebbling.specs.Blocks.{AreWithinBlock}
use Rattle.plan_choice.specs.Blocks.{extent_of}
use Rattle.plan_choice.specs.Lean.{OneBlockFits, HasOneBlockCosts, HasFewToffoliGates}
use Rattle.sum_graph.specs.Graphs.{IsLeanOf, SumGraphView}
use Rattle.circuit_plans.specs.declared.choice.Plan.{Plan}
use Rattle.circuit_plans.specs.declared.choice.Plan.TheVariants.{Auto, Compact, Eager, Lean, Pebble, Shallow}

-- ---- rows of the budget numbers

-- so many lines and gates are within the budget
pub record Fit (b : BudgetView) (lines gates : ℕ) : Type 0 where
  pub few_lines : lines ≤ b.lines
  pub few_gates : gates ≤ b.gates

-- both numbers of a row fit
abbrev pub PlainFits : BudgetView → Measures → Type 0
PlainFits b m = Fit b (plain_lines m b.borrow) (plain_gates m)

pub record FineFits (b : BudgetView) (m : Measures) : Type 0 where
  pub levels : ℕ
  pub are : IsLevels 1 m.steps levels
  pub fit : Fit b (fine_lines m levels b.borrow) (fine_gates m levels)

-- for some power of two as the size of a block
pub record BlockFits (b : BudgetView) (m : Measures) : Type 0 where
  pub power : ℕ
  pub levels : ℕ
  pub are : IsLevels (2 ^ power) m.steps levels
  pub fit : Fit b (block_lines m (2 ^ power) levels b.borrow) (block_gates m (2 ^ power) levels)

abbrev pub EagerFits : BudgetView → Measures → Type 0
EagerFits b m = Fit b (eager_lines m b.borrow) (eager_gates m)

abbrev pub PebblingFits : BudgetView → Measures → Type 0
PebblingFits b m = PlainFits b m ⊎ (FineFits b m ⊎ BlockFits b m)

-- a line for each step, and what two toggles of each lean node and one of each output weigh at most
abbrev pub LeanFits : BudgetView → Measures → Type 0
LeanFits b m = Fit b (lean_lines m b.borrow) (lean_gates m)

-- The numbers of the row for which the law of depth holds: a line for each input, output and
-- borrowed bit and three for each step; and eight gates for each step and one for each output.
abbrev pub shallow_lines : Measures → ℕ → ℕ
shallow_lines m borrowed = m.inputs + m.outputs + 3 * m.steps + borrowed

abbrev pub shallow_gates : Measures → ℕ
shallow_gates m = 8 * m.steps + m.outputs

abbrev pub ShallowFits : BudgetView → Measures → Type 0
ShallowFits b m = Fit b (shallow_lines m b.borrow) (shallow_gates m)

-- one of the rows that a choice of plans allows fits
abbrev pub SomeRowFits : Plan → BudgetView → Measures → Type 0
SomeRowFits Auto b m = EagerFits b m ⊎ PebblingFits b m
SomeRowFits Compact b m = LeanFits b m
SomeRowFits Eager b m = EagerFits b m
SomeRowFits Lean b m = LeanFits b m
SomeRowFits Pebble b m = PebblingFits b m
SomeRowFits Shallow b m = LeanFits b m

-- neither the plain numbers fit, nor those of a block of this size or more
pub record NoLargerFits (s : SettledView) (block : ℕ) (b : BudgetView) : Type 0 where
  pub plain : (m : Measures) → IsWithin s m → ¬ PlainFits b m
  pub blocks : (m : Measures) (power levels : ℕ) → IsWithin s m → block ≤ 2 ^ power
      → IsLevels (2 ^ power) m.steps levels
      → ¬ Fit b (block_lines m (2 ^ power) levels b.borrow)
      (block_gates m (2 ^ power) levels)

-- ---- refusals

-- the budget has fewer lines than the fine number
pub record IsBelowFineLines (b : BudgetView) (m : Measures) : Type 0 where
  pub below : (levels : ℕ) → IsLevels 1 m.steps levels → b.lines < fine_lines m levels b.borrow

-- the budget has fewer gates than the fine number
pub record IsBelowFineGates (b : BudgetView) (m : Measures) : Type 0 where
  pub below : (levels : ℕ) → IsLevels 1 m.steps levels → b.gates < fine_gates m levels

-- the budget has fewer lines than the eager number, than a line for each step under `Lean`,
-- `Compact` and `Shallow`, or than the fine number where pebbling of the plain graph is tried too
abbrev pub HasFewLines : Plan → BudgetView → Measures → Type 0
HasFewLines Auto b m = IsBelowFineLines b m
HasFewLines Compact b m = b.lines < lean_lines m b.borrow
HasFewLines Eager b m = b.lines < eager_lines m b.borrow
HasFewLines Lean b m = b.lines < lean_lines m b.borrow
HasFewLines Pebble b m = IsBelowFineLines b m
HasFewLines Shallow b m = b.lines < lean_lines m b.borrow

-- the same of gates; under those three pebbling by smaller blocks saves lines for gates, and the
-- row tells all that is known
abbrev pub HasFewGates : Plan → BudgetView → Measures → Type 0
HasFewGates Auto b m = IsBelowFineGates b m
HasFewGates Compact b m = ¬ LeanFits b m
HasFewGates Eager b m = b.gates < eager_gates m
HasFewGates Lean b m = ¬ LeanFits b m
HasFewGates Pebble b m = IsBelowFineGates b m
HasFewGates Shallow b m = ¬ LeanFits b m

-- within all measures within which the settled graph is, the budget has too few lines, and no
-- allowed row fits
pub record LinesAreFew (plan : Plan) (s : SettledView) (b : BudgetView) : Type 0 where
  pub few : (m : Measures) → IsWithin s m → HasFewLines plan b m
  pub no_row : (m : Measures) → IsWithin s m → ¬ SomeRowFits plan b m

-- the same of gates
pub record GatesAreFew (plan : Plan) (s : SettledView) (b : BudgetView) : Type 0 where
  pub few : (m : Measures) → IsWithin s m → HasFewGates plan b m
  pub no_row : (m : Measures) → IsWithin s m → ¬ SomeRowFits plan b m

-- why no plan is laid; memory is wanted only where the budget has the lines of the inputs and
-- outputs
abbrev pub IsChoiceFault : Plan → SettledView → BudgetView → PlanFault → Type 0
IsChoiceFault plan s b (Lines need) = LinesAreFew plan s b × (need ≡ wanted_lines (ports_of s) b)
IsChoiceFault plan s b Gates = GatesAreFew plan s b
IsChoiceFault plan s b (Memory _) = HasPortLines (ports_of s) b

-- ---- what is laid

-- The plan is one of the settled graph: it has its inputs and outputs and the borrowed lines of the
-- budget, is within the budget, and adds the graph's outputs to whatever the output lines may hold.
pub record IsLaidFor (start : Start) (s : SettledView) (b : BudgetView) (laid : LaidView)
    : Type 0 where
  pub inputs : laid.inputs ≡ s.inputs
  pub outputs : laid.outputs ≡ length s.outputs
  pub borrowed : laid.borrowed ≡ b.borrow
  pub lines : laid.circuit.lines ≤ b.lines
  pub gates : length laid.circuit.gates ≤ b.gates
  pub clean : AddsOutputs start (roles_of laid) laid.circuit.gates (settled_outputs s)

-- ---- which plan is laid

-- its lines and gates are within the eager numbers
abbrev pub IsEager : SettledView → BudgetView → LaidView → Type 0
IsEager s b laid =
    AreWithinEager s b.borrow laid.circuit.lines (length laid.circuit.gates)

-- they are within the numbers of a block, where one block has all nodes or no row of larger blocks
-- fits
pub record IsPebbling (s : SettledView) (b : BudgetView) (laid : LaidView) : Type 0 where
  pub power : ℕ
  pub within : AreWithinBlock (extent_of s) (2 ^ power) b.borrow laid.circuit.lines
      (length laid.circuit.gates)
  pub first : (length s.nodes ≤ 2 ^ power) ⊎ NoLargerFits s (2 ^ suc power) b

-- A plan of a lean graph, of narrow gates: it has at most a line for each input, output, node and
-- borrowed bit of that graph, and so no more than its row; where one block of all nodes fits, few
-- Toffoli gates and gates for that graph; and where the row fits, few for the settled graph, and no
-- more than twice the gates of the row.
pub record IsLean (s : SettledView) (b : BudgetView) (laid : LaidView) : Type 0 where
  pub graph : SumGraphView
  pub lean : IsLeanOf s graph
  pub narrow : AreNarrow laid.circuit.gates
  pub lines : laid.circuit.lines ≤ first_work graph + length graph.nodes + b.borrow
  pub one_block : OneBlockFits graph b → HasOneBlockCosts graph laid
  pub row_lines : (m : Measures) → IsWithin s m → laid.circuit.lines ≤ lean_lines m b.borrow
  pub row_gates : (m : Measures) → IsWithin s m → LeanFits b m
      → length laid.circuit.gates ≤ 2 * lean_gates m
  pub few : (m : Measures) → IsWithin s m → LeanFits b m → HasFewToffoliGates s laid

-- A plan on output lines that begin at 0, of narrow gates: where the lean row fits, it has few
-- Toffoli gates for the settled graph.
pub record IsCompact (s : SettledView) (b : BudgetView) (laid : LaidView) : Type 0 where
  pub narrow : AreNarrow laid.circuit.gates
  pub few : (m : Measures) → IsWithin s m → LeanFits b m → HasFewToffoliGates s laid

-- A plan that is chosen by its Toffoli depth, of narrow gates. The law of depth: where the shallow
-- row fits, its Toffoli depth is at most twice the AND depth of the settled graph.
pub record IsShallow (s : SettledView) (b : BudgetView) (laid : LaidView) : Type 0 where
  pub narrow : AreNarrow laid.circuit.gates
  pub depth : (m : Measures) → IsWithin s m → ShallowFits b m
      → toffoli_depth_of laid.circuit.gates ≤ 2 * and_depth s.nodes

-- a plan of the lean graph, by what the output lines may hold
abbrev pub IsOfLean : Start → SettledView → BudgetView → LaidView → Type 0
IsOfLean Any s b laid = IsLean s b laid
IsOfLean Zero s b laid = IsCompact s b laid

-- the eager numbers do not both fit
pub record NoEagerFits (s : SettledView) (b : BudgetView) : Type 0 where
  pub none : (m : Measures) → IsWithin s m → ¬ EagerFits b m

-- a plan that the choice allows; pebbling comes only where the eager numbers do not fit, or where
-- it alone is allowed
abbrev pub IsChosen : Plan → SettledView → BudgetView → LaidView → Type 0
IsChosen Auto s b laid = IsEager s b laid ⊎ (NoEagerFits s b × IsPebbling s b laid)
IsChosen Compact s b laid = IsCompact s b laid
IsChosen Eager s b laid = IsEager s b laid
IsChosen Lean s b laid = IsLean s b laid
IsChosen Pebble s b laid = IsPebbling s b laid
IsChosen Shallow s b laid = IsShallow s b laid
