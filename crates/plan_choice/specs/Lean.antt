-- Plans of a lean graph: why there is none, and what one costs.
use Rattle.std.specs.Prelude.{ℕ, ◌+◌, ◌*◌, ◌≤◌, Bool, length, sum_by}
use Rattle.bennett_pebbling.specs.Pebbling.{plain_weight}
use Rattle.circuit_plans.specs.Plans.{BudgetView, LaidView}
use Rattle.claim_check.specs.Settled.{SettledView}
use Rattle.dependency_graph.specs.Graphs.{ands_in}
use Rattle.mct_circuit.specs.Sizes.{counts_of}
use Rattle.sum_graph.specs.Graphs.{SumGraphView, first_work, products_in}
use Rattle.sum_graph.specs.Lone.{GoToOneOutput, ands_beside}
use Rattle.sum_toggles.specs.Toggles.{toggle_weight}

-- a line for each node, and what two toggles of each node and one of each output weigh, are within
-- the budget
pub record OneBlockFits (l : SumGraphView) (b : BudgetView) : Type 0 where
  pub lines : first_work l + length l.nodes + b.borrow ≤ b.lines
  pub gates : plain_weight l ≤ b.gates

-- the number of Toffoli gates: flips under two lines
abbrev pub toffoli : LaidView → ℕ
toffoli laid = (counts_of laid.circuit.gates).ccx

-- what four toggles of each node and one of each output weigh
abbrev pub one_block_weight : SumGraphView → ℕ
one_block_weight l = 4 * sum_by toggle_weight l.nodes + sum_by toggle_weight l.outputs

-- At most two Toffoli gates for each product of a node and one for each of an output, and no more
-- gates than four toggles of each node and one of each output weigh.
pub record HasOneBlockCosts (l : SumGraphView) (laid : LaidView) : Type 0 where
  pub products : toffoli laid ≤ 2 * products_in l.nodes + products_in l.outputs
  pub gates : length laid.circuit.gates ≤ one_block_weight l

-- At most two Toffoli gates for each AND of the settled graph, and only one for each that goes to
-- one output alone.
pub record HasFewToffoliGates (s : SettledView) (laid : LaidView) : Type 0 where
  pub all : toffoli laid ≤ 2 * ands_in s.nodes
  pub lone : (lone : ℕ → Bool) → GoToOneOutput s lone
      → toffoli laid ≤ ands_in s.nodes + ands_beside lone s.nodes
