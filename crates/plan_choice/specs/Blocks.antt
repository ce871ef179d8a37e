-- The numbers of a block, as the nodes of a settled graph are in blocks.
use Rattle.std.specs.Prelude.{ℕ, ◌+◌, ◌*◌, length}
use Rattle.bennett_pebbling.specs.Blocks.{Extent, IsBlockFault}
use Rattle.claim_check.specs.Measures.{IsWithin}
use Rattle.claim_check.specs.Settled.{SettledView}
use Rattle.circuit_plans.specs.declared.plan.PlanFault.{PlanFault}
use Rattle.circuit_plans.specs.Plans.{BudgetView}
use Rattle.eager_cleanup.specs.Eager.{ports_of}

-- what blocks of a settled graph count; one block of all nodes takes four gates for each, and one
-- for each output
abbrev pub extent_of : SettledView → Extent
extent_of s = record {
  is_within = IsWithin s;
  ports = ports_of s;
  nodes = length s.nodes;
  gates = 4 * length s.nodes + length s.outputs;
}

-- why there is no plan by blocks of this size
abbrev pub IsPebblingFault : SettledView → ℕ → BudgetView → PlanFault → Type 0
IsPebblingFault s block b fault = IsBlockFault (extent_of s) block b fault
