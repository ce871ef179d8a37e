-- What the eager plan needs: no more than the eager numbers.
use Rattle.std.specs.Prelude.{◌≡◌, ℕ, ◌+◌, ◌<◌, ◌≤◌, length, sum_by}
use Rattle.claim_check.specs.Budgets.{Measures, eager_lines, eager_gates}
use Rattle.claim_check.specs.Measures.{IsWithin}
use Rattle.claim_check.specs.Settled.{SettledView}
use Rattle.circuit_plans.specs.declared.plan.PlanFault.{PlanFault}
use Rattle.circuit_plans.specs.declared.plan.PlanFault.TheVariants.{Lines, Gates, Memory}
use Rattle.gate_split.specs.Costs.{most_gates}
use Rattle.circuit_plans.specs.Plans.{BudgetView, PlannedView}
use Rattle.circuit_plans.specs.Plans.{HasPortLines, wanted_lines}

-- how many inputs and outputs it has
abbrev pub ports_of : SettledView → ℕ
ports_of s = s.inputs + length s.outputs

-- so many lines, of which some are borrowed, and gates are within the eager numbers of all measures
-- within which the settled graph is
pub record AreWithinEager (s : SettledView) (borrowed lines gates : ℕ) : Type 0 where
  pub few_lines : (m : Measures) → IsWithin s m → lines ≤ eager_lines m borrowed
  pub few_gates : (m : Measures) → IsWithin s m → gates ≤ eager_gates m

-- the plan's lines and its split gates are
abbrev pub IsWithinEager : SettledView → PlannedView → Type 0
IsWithinEager s p = AreWithinEager s 0 p.circuit.lines (sum_by most_gates p.circuit.gates)

-- the budget has fewer lines than each such eager number
pub record HasFewLines (s : SettledView) (b : BudgetView) : Type 0 where
  pub few : (m : Measures) → IsWithin s m → b.lines < eager_lines m b.borrow

-- the budget has fewer gates than each such eager number
pub record HasFewGates (s : SettledView) (b : BudgetView) : Type 0 where
  pub few : (m : Measures) → IsWithin s m → b.gates < eager_gates m

-- why there is no eager plan; memory is wanted only where the budget has the lines of the inputs
-- and outputs
abbrev pub IsEagerFault : SettledView → BudgetView → PlanFault → Type 0
IsEagerFault s b (Lines need) = HasFewLines s b × (need ≡ wanted_lines (ports_of s) b)
IsEagerFault s b Gates = HasFewGates s b
IsEagerFault s b (Memory _) = HasPortLines (ports_of s) b
