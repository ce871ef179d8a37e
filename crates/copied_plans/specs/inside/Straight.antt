-- Straight plans: each node of a graph of sums is toggled once, in their order, each onto a line of
-- its own, and all of it is undone behind the copies of the outputs.
use Rattle.std.specs.Prelude.{◌≡◌, ℕ, ◌+◌, ◌*◌, ◌≤◌, List, [], ◌∷◌, ◌++◌, length, reverse, Option, sum_by}
use Rattle.bit_sums.specs.Sums.{SumView}
use Rattle.circuit_plans.specs.declared.roles.Start.TheVariants.{Any}
use Rattle.circuit_plans.specs.Plans.{BudgetView, IsNarrowPlan, PlannedView}
use Rattle.dependency_graph.specs.declared.node.Base.{Base}
use Rattle.dependency_graph.specs.declared.node.Base.TheVariants as bases
use Rattle.held_nodes.specs.Moves.{copies_from}
use Rattle.mct_circuit.specs.Gates.{GateView}
use Rattle.sum_graph.specs.Graphs.{SumGraphView, first_work, sum_outputs}
use Rattle.sum_toggles.specs.Toggles.{sum_gates, toggle_weight}

-- the line of a base, where node k has the k-th work line
abbrev pub line_at : ℕ → Base → ℕ
line_at first (bases.Input i) = i
line_at first (bases.Node k) = first + k

-- the gates of some sums, the first on the target, each other on the next line
abbrev pub sums_in_order : (Base → ℕ) → ℕ → List SumView → List GateView
sums_in_order line target [] = []
sums_in_order line target (s ∷ rest) =
    sum_gates line target s ++ sums_in_order line (target + 1) rest

-- those of all nodes of a graph
abbrev pub straight_gates : SumGraphView → List GateView
straight_gates s = sums_in_order (line_at (first_work s)) (first_work s) s.nodes

-- a line for each node, and what two toggles of each node and one of each output weigh, are within
-- the budget
pub record StraightFits (s : SumGraphView) (b : BudgetView) : Type 0 where
  pub lines : first_work s + length s.nodes + b.borrow ≤ b.lines
  pub gates : 2 * sum_by toggle_weight s.nodes + sum_by toggle_weight s.outputs ≤ b.gates

-- the plan has these gates, copies of the outputs from some lines, and these gates reversed
pub record IsStraightPlan (s : SumGraphView) (b : BudgetView) (p : PlannedView) : Type 0 where
  pub plan : IsNarrowPlan Any s.inputs (length s.outputs) (sum_outputs s) b p
  pub lines : List (Option ℕ)
  pub gates : p.circuit.gates
      ≡ straight_gates s ++ copies_from (first_work s) lines s.inputs s.outputs
      ++ reverse (straight_gates s)
