-- What toggles add to any measure of gates.
use Rattle.std.specs.Prelude.{ℕ, zero, suc, ◌+◌, ◌≤◌, Option, None, Some, slice_get, sum_by}
use Rattle.bit_sums.specs.Sums.{SumView}
use Rattle.held_nodes.specs.Held.{ForwardView}
use Rattle.held_nodes.specs.Moves.{IsToggled}
use Rattle.mct_circuit.specs.Gates.{GateView}
use Rattle.sum_graph.specs.Graphs.{SumGraphView}

-- a toggle of a node adds no more to the measure of the gates than the price of the node's sum
pub record IsPrice (measure : GateView → ℕ) (price : SumView → ℕ) : Type 0 where
  pub toggled : (f next : ForwardView) (k : ℕ) (t : IsToggled f k next)
      → sum_by measure next.gates ≤ sum_by measure f.gates + price t.node

abbrev pub price_of : (SumView → ℕ) → Option SumView → ℕ
price_of price None = 0
price_of price (Some sum) = price sum

-- the price of a node
abbrev pub price_at : (SumView → ℕ) → SumGraphView → ℕ → ℕ
price_at price s k = price_of price (slice_get s.nodes k)

-- the prices of the nodes from lo on, so many
abbrev pub prices : (SumView → ℕ) → SumGraphView → ℕ → ℕ → ℕ
prices price s lo zero = 0
prices price s lo (suc n) = prices price s lo n + price_at price s (lo + n)
