-- The numbers of a block: rows of lines and gates that pebbling by halves down to blocks of nodes
-- never passes.
use Rattle.std.specs.Prelude.{◌≡◌, ℕ, ◌+◌, ◌*◌, ◌^◌, ◌<◌, ◌≤◌}
use Rattle.claim_check.specs.Budgets.{Measures, block_lines, block_gates, fine_lines, fine_gates}
use Rattle.circuit_plans.specs.declared.plan.PlanFault.{PlanFault}
use Rattle.circuit_plans.specs.declared.plan.PlanFault.TheVariants.{Lines, Gates, Memory}
use Rattle.circuit_plans.specs.Plans.{BudgetView}
use Rattle.circuit_plans.specs.Plans.{HasPortLines, wanted_lines}

-- What of a graph is counted: the measures within which it is, its inputs and outputs, its nodes,
-- and the gates of a plan with one block of all nodes.
pub record Extent : Type 1 where
  pub is_within : Measures → Type 0
  pub ports : ℕ
  pub nodes : ℕ
  pub gates : ℕ

-- all nodes are in blocks of this size after so many halvings, and the graph is within the measures
pub record IsHalved (e : Extent) (block levels : ℕ) (m : Measures) : Type 0 where
  pub within : e.is_within m
  pub enough : e.nodes ≤ block * 2 ^ levels

-- The lines and gates of each row of the block's numbers: of as many halvings as are enough; for a
-- block of one node the fine numbers; and where one block has all nodes, one work line for each and
-- the gates of such a plan.
pub record InEachRow (e : Extent) (block borrowed : ℕ) (holds : ℕ → ℕ → Type 0) : Type 0 where
  pub halved : (m : Measures) (levels : ℕ) → IsHalved e block levels m
      → holds (block_lines m block levels borrowed) (block_gates m block levels)
  pub fine : (m : Measures) (levels : ℕ) → block ≡ 1 → IsHalved e 1 levels m
      → holds (fine_lines m levels borrowed) (fine_gates m levels)
  pub plain : e.nodes ≤ block → holds (e.ports + e.nodes + borrowed) e.gates

-- so many lines, of which some are borrowed, and gates are within each row
abbrev pub AreWithinBlock : Extent → ℕ → ℕ → ℕ → ℕ → Type 0
AreWithinBlock e block borrowed lines gates =
    InEachRow e block borrowed (λ row_lines row_gates. (lines ≤ row_lines) × (gates ≤ row_gates))

-- the budget has fewer lines than each row
abbrev pub HasFewLines : Extent → ℕ → BudgetView → Type 0
HasFewLines e block b = InEachRow e block b.borrow (λ row_lines row_gates. b.lines < row_lines)

-- the budget has fewer gates than each row
abbrev pub HasFewGates : Extent → ℕ → BudgetView → Type 0
HasFewGates e block b = InEachRow e block b.borrow (λ row_lines row_gates. b.gates < row_gates)

-- why there is no plan; memory is wanted only where the budget has the lines of the inputs and
-- outputs
abbrev pub IsBlockFault : Extent → ℕ → BudgetView → PlanFault → Type 0
IsBlockFault e block b (Lines need) = HasFewLines e block b × (need ≡ wanted_lines e.ports b)
IsBlockFault e block b Gates = HasFewGates e block b
IsBlockFault e block b (Memory _) = HasPortLines e.ports b
