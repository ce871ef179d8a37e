-- What a plan that was tried says: of its split, of one block, of all blocks down to one, and of a
-- lean graph.
use Rattle.std.specs.Prelude.{◌≡◌, ◌⊎◌, ℕ, ◌+◌, ◌*◌, ◌<◌, ◌≤◌, Bool, true, false, ⊤, Result, Ok, Err, List, length, sum_by}
use Rattle.bennett_pebbling.specs.Blocks.{AreWithinBlock}
use Rattle.bennett_pebbling.specs.Pebbling.{HasNoLineEach, plain_weight}
use Rattle.circuit_plans.specs.declared.plan.PlanFault.{PlanFault}
use Rattle.circuit_plans.specs.declared.plan.PlanFault.TheVariants.{Lines, Gates, Memory}
use Rattle.circuit_plans.specs.declared.roles.Start.{Start}
use Rattle.circuit_plans.specs.declared.roles.Start.TheVariants.{Any, Zero}
use Rattle.circuit_plans.specs.Plans.{AddsOutputs, BudgetView, HasPortLines, IsNarrowPlan, PlannedView, LaidView, roles_of, roles_of_plan, wanted_lines}
use Rattle.claim_check.specs.Settled.{SettledView, settled_outputs}
use Rattle.copied_plans.specs.Levels.{and_depth}
use Rattle.gate_split.specs.Costs.{most_gates}
use Rattle.gate_split.specs.Split.{HasSplitList, IsSplitList}
use Rattle.mct_circuit.specs.Gates.{AreNarrow}
use Rattle.mct_circuit.specs.Sizes.{toffoli_depth_of}
use Rattle.sum_graph.specs.Graphs.{SumGraphView, first_work, products_in, sum_outputs}
use Rattle.plan_choice.specs.declared.lean.Most.{Most}
use Rattle.plan_choice.specs.Blocks.{IsPebblingFault, extent_of}
use Rattle.plan_choice.specs.Choices.{IsLaidFor, NoLargerFits}
use Rattle.sum_toggles.specs.Toggles.{toggle_weight}
use Rattle.plan_choice.specs.Lean.{OneBlockFits, one_block_weight, toffoli}

-- whether there is no plan though memory was not wanting
abbrev pub is_refusal : Result LaidView PlanFault → Bool
is_refusal (Ok laid) = false
is_refusal (Err (Lines need)) = true
is_refusal (Err Gates) = true
is_refusal (Err (Memory _)) = false

-- ---- the split of a plan

-- The plan with its gates split, and the borrowed lines of the budget, is within the budget, and
-- adds what the plan does.
pub record IsLaidOf (p : PlannedView) (b : BudgetView) (laid : LaidView) : Type 0 where
  pub inputs : laid.inputs ≡ p.inputs
  pub outputs : laid.outputs ≡ p.outputs
  pub borrowed : laid.borrowed ≡ b.borrow
  pub size : laid.circuit.lines ≡ p.circuit.lines + b.borrow
  pub lines : laid.circuit.lines ≤ b.lines
  pub split : IsSplitList (p.circuit.lines + b.borrow) b.gates p.circuit.gates
      laid.circuit.gates
  pub gates : length laid.circuit.gates ≤ b.gates
  pub clean : (start : Start) (value : List Bool → List Bool)
      → AddsOutputs start (roles_of_plan p) p.circuit.gates value
      → AddsOutputs start (roles_of laid) laid.circuit.gates value

-- The plan was laid, and its gates are as they were.
pub record IsLaidAsIs (p : PlannedView) (b : BudgetView) (laid : LaidView) : Type 0 where
  pub laid_of : IsLaidOf p b laid
  pub same : laid.circuit.gates ≡ p.circuit.gates

-- the budget has fewer gates than the most that can stand in place of the plan's; memory is wanted
-- only where they have a split list within it
abbrev pub IsSplitFault : PlannedView → BudgetView → PlanFault → Type 0
IsSplitFault p b (Lines need) = ⊥
IsSplitFault p b Gates = b.gates < sum_by most_gates p.circuit.gates
IsSplitFault p b (Memory _) =
    HasSplitList (p.circuit.lines + b.borrow) b.gates p.circuit.gates

-- its lines and gates are within the numbers of the block
abbrev pub IsLaidInBlocks : SettledView → ℕ → BudgetView → LaidView → Type 0
IsLaidInBlocks s block b laid =
    AreWithinBlock (extent_of s) block b.borrow laid.circuit.lines (length laid.circuit.gates)

-- ---- the search for a block

-- why no block of this size or more was laid; want of memory has no cause
abbrev pub IsSearchFault : SettledView → ℕ → BudgetView → PlanFault → Type 0
IsSearchFault s block b (Lines need) =
    NoLargerFits s block b × IsPebblingFault s block b (Lines need)
IsSearchFault s block b Gates = NoLargerFits s block b × IsPebblingFault s block b Gates
IsSearchFault s block b (Memory _) = IsPebblingFault s block b (Memory _)

-- ---- plans of graphs of sums

-- The graph of sums has the inputs of the settled graph, as many outputs, and on every input their
-- values: its plans are plans of the settled graph.
pub record HasOutputsOf (s : SettledView) (l : SumGraphView) : Type 0 where
  pub inputs : l.inputs ≡ s.inputs
  pub outputs : length l.outputs ≡ length s.outputs
  pub values : (input : List Bool) → sum_outputs l input ≡ settled_outputs s input

-- a plan of the settled graph, of narrow gates
pub record IsShallowFor (s : SettledView) (b : BudgetView) (laid : LaidView) : Type 0 where
  pub laid_for : IsLaidFor Any s b laid
  pub narrow : AreNarrow laid.circuit.gates

-- its Toffoli depth is at most twice the AND depth
abbrev pub HasSmallDepth : SettledView → LaidView → Type 0
HasSmallDepth s laid = toffoli_depth_of laid.circuit.gates ≤ 2 * and_depth s.nodes

-- a plan of the settled graph, of narrow gates, of small Toffoli depth
pub record IsCopied (s : SettledView) (b : BudgetView) (laid : LaidView) : Type 0 where
  pub is : IsShallowFor s b laid
  pub depth : HasSmallDepth s laid

-- ---- plans of a lean graph

-- why no plan of a lean graph was laid: its row does not fit; memory is wanted only where the
-- budget has the lines of the inputs and outputs
abbrev pub IsLeanFault : SumGraphView → BudgetView → PlanFault → Type 0
IsLeanFault l b (Lines need) =
    HasNoLineEach l b × (need ≡ wanted_lines (first_work l) b)
IsLeanFault l b Gates = b.gates < plain_weight l
IsLeanFault l b (Memory _) = HasPortLines (first_work l) b

-- a narrow plan of a lean graph was laid as it is
pub record IsLaidOfLean (start : Start) (l : SumGraphView) (b : BudgetView) (laid : LaidView)
    : Type 0 where
  pub plan : PlannedView
  pub is_plan : IsNarrowPlan start l.inputs (length l.outputs) (sum_outputs l) b plan
  pub as_is : IsLaidAsIs plan b laid

-- The plan of the row: a line for each input, output, node and borrowed bit, two toggles of each
-- node and one of each output.
pub record IsRow (l : SumGraphView) (b : BudgetView) (laid : LaidView) : Type 0 where
  pub laid_of : IsLaidOfLean Any l b laid
  pub lines : laid.circuit.lines ≤ first_work l + length l.nodes + b.borrow
  pub products : toffoli laid ≤ 2 * products_in l.nodes + products_in l.outputs
  pub gates : length laid.circuit.gates ≤ plain_weight l

-- so many gates are at most what four toggles of each node and one of each output weigh, where the
-- row fits and the output lines may hold any bits; of plans on lines that begin at 0 nothing is
-- said
abbrev pub HasFewGates : Start → SumGraphView → BudgetView → ℕ → Type 0
HasFewGates Any l b gates = OneBlockFits l b → gates ≤ one_block_weight l
HasFewGates Zero l b gates = ⊤

-- so many gates, and one toggle of each output, are at most twice those of a plan, or there are
-- none, where the output lines may hold any bits
abbrev pub AreFewBeside : Start → SumGraphView → LaidView → ℕ → Type 0
AreFewBeside Any l laid gates =
    (gates ≡ 0) ⊎ (gates + sum_by toggle_weight l.outputs ≤ 2 * length laid.circuit.gates)
AreFewBeside Zero l laid gates = ⊤

-- The most that plans beside the row may have: its lines, and where it fits, its Toffoli gates, and
-- where the output lines may hold any bits, what four toggles of each node and one of each output
-- weigh.
pub record IsMost (start : Start) (l : SumGraphView) (b : BudgetView) (most : Most)
    : Type 0 where
  pub lines : most.lines ≤ first_work l + length l.nodes + b.borrow
  pub toffoli : OneBlockFits l b → most.toffoli ≤ 2 * products_in l.nodes + products_in l.outputs
  pub gates : HasFewGates start l b most.gates

pub record IsWithin (most : Most) (laid : LaidView) : Type 0 where
  pub lines : laid.circuit.lines ≤ most.lines
  pub toffoli : toffoli laid ≤ most.toffoli
  pub gates : length laid.circuit.gates ≤ most.gates

-- a plan of a lean graph that is within the most
pub record IsLaidLean (start : Start) (l : SumGraphView) (b : BudgetView) (laid : LaidView)
    : Type 0 where
  pub laid_of : IsLaidOfLean start l b laid
  pub lines : laid.circuit.lines ≤ first_work l + length l.nodes + b.borrow
  pub products : OneBlockFits l b → toffoli laid ≤ 2 * products_in l.nodes + products_in l.outputs
  pub gates : HasFewGates start l b (length laid.circuit.gates)
