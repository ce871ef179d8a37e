-- What pebbling of a graph of sums by halves down to blocks of nodes needs.
use Rattle.std.specs.Prelude.{◌≡◌, ℕ, ◌+◌, ◌*◌, ◌<◌, ◌≤◌, length, sum_by}
use Rattle.std.specs.List.{AllByRecursion}
use Rattle.bit_sums.specs.Sums.{SumView}
use Rattle.dependency_graph.specs.declared.node.Sig.{Sig}
use Rattle.sum_graph.specs.Plain.{plain_output}
use Rattle.sum_graph.specs.Uses.{sum_cut}
use Rattle.sum_toggles.specs.Toggles.{toggle_weight}
use Rattle.claim_check.specs.Budgets.{Measures}
use Rattle.sum_graph.specs.Graphs.{SumGraphView, products_in}
use Rattle.circuit_plans.specs.declared.plan.PlanFault.{PlanFault}
use Rattle.circuit_plans.specs.declared.plan.PlanFault.TheVariants.{Lines, Gates, Memory}
use Rattle.circuit_plans.specs.Plans.{BudgetView, PlannedView}
use Rattle.mct_circuit.specs.Sizes.{counts_of}
use Rattle.sum_graph.specs.Graphs.{first_work}
use Rattle.bennett_pebbling.specs.Blocks.{Extent, AreWithinBlock, IsBlockFault}

-- an output is a base or a constant
pub record IsCopy (s : SumView) : Type 0 where
  pub sig : Sig
  pub is : s ≡ plain_output sig

-- No toggle weighs more than 2, and each output is a base or a constant.
pub record IsLight (s : SumGraphView) : Type 0 where
  pub toggles : AllByRecursion (λ (node : SumView). toggle_weight node ≤ 2) s.nodes
  pub outputs : AllByRecursion IsCopy s.outputs

-- A light graph is within measures: it has these inputs and outputs, no more nodes, and no longer
-- cuts.
pub record IsSumWithin (s : SumGraphView) (m : Measures) : Type 0 where
  pub light : IsLight s
  pub inputs : s.inputs ≡ m.inputs
  pub outputs : length s.outputs ≡ m.outputs
  pub steps : length s.nodes ≤ m.steps
  pub cuts : (j : ℕ) → j ≤ length s.nodes → length (sum_cut s j) ≤ m.width

-- what toggles of all nodes, computed and cleaned, and of the outputs weigh
abbrev pub plain_weight : SumGraphView → ℕ
plain_weight s = 2 * sum_by toggle_weight s.nodes + sum_by toggle_weight s.outputs

-- what blocks of a graph of sums count
abbrev pub extent_of : SumGraphView → Extent
extent_of s = record {
  is_within = IsSumWithin s;
  ports = first_work s;
  nodes = length s.nodes;
  gates = plain_weight s;
}

-- the plan's lines and gates are within the numbers of the block
abbrev pub IsWithinBlock : SumGraphView → ℕ → PlannedView → Type 0
IsWithinBlock s block p =
    AreWithinBlock (extent_of s) block 0 p.circuit.lines (length p.circuit.gates)

-- the plan has at most a line for each input, output and node
pub record HasLineEach (s : SumGraphView) (p : PlannedView) : Type 0 where
  pub few : p.circuit.lines ≤ first_work s + length s.nodes

-- where one block has all nodes, the plan has at most two flips under two lines for each product of
-- a node, and one for each of an output
pub record HasFewProducts (s : SumGraphView) (block : ℕ) (p : PlannedView) : Type 0 where
  pub plain : length s.nodes ≤ block
      → (counts_of p.circuit.gates).ccx ≤ 2 * products_in s.nodes + products_in s.outputs

-- the budget has less than a line for each input, output, node and borrowed bit
abbrev pub HasNoLineEach : SumGraphView → BudgetView → Type 0
HasNoLineEach s b = b.lines < first_work s + length s.nodes + b.borrow

-- why there is no plan
abbrev pub IsPebblingFault : SumGraphView → ℕ → BudgetView → PlanFault → Type 0
IsPebblingFault s block b (Lines need) =
    HasNoLineEach s b × IsBlockFault (extent_of s) block b (Lines need)
IsPebblingFault s block b Gates = IsBlockFault (extent_of s) block b Gates
IsPebblingFault s block b (Memory _) = IsBlockFault (extent_of s) block b (Memory _)
