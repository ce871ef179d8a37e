-- The copied plan of a settled graph: the row that it wants, and what it promises.
use Rattle.std.specs.Prelude.{◌+◌, ◌*◌, ◌≤◌, length}
use Rattle.circuit_plans.specs.declared.roles.Start.TheVariants.{Any}
use Rattle.circuit_plans.specs.Plans.{BudgetView, IsNarrowPlan, PlannedView}
use Rattle.claim_check.specs.Settled.{SettledView, settled_outputs}
use Rattle.mct_circuit.specs.Sizes.{toffoli_depth_of}
use Rattle.copied_plans.specs.Levels.{and_depth}

-- The row fits: a line for each input, output and borrowed bit and three for each node; and eight
-- gates for each node and one for each output.
pub record CopiedFits (s : SettledView) (b : BudgetView) : Type 0 where
  pub lines : s.inputs + length s.outputs + 3 * length s.nodes + b.borrow ≤ b.lines
  pub gates : 8 * length s.nodes + length s.outputs ≤ b.gates

-- A plan of the settled graph, of narrow gates, whose Toffoli depth is at most twice the AND depth.
pub record IsCopiedPlan (s : SettledView) (b : BudgetView) (p : PlannedView) : Type 0 where
  pub plan : IsNarrowPlan Any s.inputs (length s.outputs) (settled_outputs s) b p
  pub shallow : toffoli_depth_of p.circuit.gates ≤ 2 * and_depth s.nodes
