-- Graphs of sums with at most one product a node, and none in an output.
use Rattle.std.specs.Prelude.{◌≡◌, ℕ, ◌+◌, ◌<◌, ◌≤◌, Bool, List, length, Option, Some, None}
use Rattle.std.specs.List.{AllByRecursion}
use Rattle.revs_tape.specs.declared.limits.TheConstants.{MOST_WRITES}
use Rattle.bit_sums.specs.Sums.{SumView}
use Rattle.sum_graph.specs.Graphs.{HasFewBits, SumGraphView, products_in, sum_outputs}

-- a sum with at most one product
abbrev pub HasOneProduct : SumView → Type 0
HasOneProduct sum = length sum.products ≤ 1

-- a sum without products
abbrev pub HasNoProduct : SumView → Type 0
HasNoProduct sum = length sum.products ≡ 0

-- the nodes of a graph, and one for each product of its nodes and outputs
abbrev pub most_nodes : SumGraphView → ℕ
most_nodes g = length g.nodes + products_in g.nodes + products_in g.outputs

-- The graph of a graph of sums that has at most one product a node, and none in an output: it has
-- the inputs of that, and on every input the values of its outputs; no more products; and no more
-- nodes than that has nodes and products.
pub record IsSingleOf (g s : SumGraphView) : Type 0 where
  pub inputs : s.inputs ≡ g.inputs
  pub outputs : length s.outputs ≡ length g.outputs
  pub values : (input : List Bool) → sum_outputs s input ≡ sum_outputs g input
  pub single : AllByRecursion HasOneProduct s.nodes
  pub bits : AllByRecursion HasNoProduct s.outputs
  pub products : products_in s.nodes + products_in s.outputs
      ≤ products_in g.nodes + products_in g.outputs
  pub few : length s.nodes ≤ most_nodes g
  pub few_bits : AllByRecursion HasFewBits s.nodes

-- that graph; none exactly where nodes and products together are more than a graph may have nodes
abbrev pub IsSingleOrLarge : SumGraphView → Option SumGraphView → Type 0
IsSingleOrLarge g None = MOST_WRITES < most_nodes g
IsSingleOrLarge g (Some s) = (most_nodes g ≤ MOST_WRITES) × IsSingleOf g s
