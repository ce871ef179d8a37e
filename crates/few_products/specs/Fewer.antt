-- Graphs of sums with the values of another one and fewer products.
use Rattle.std.specs.Prelude.{◌≡◌, ◌+◌, ◌<◌, Bool, List, length}
use Rattle.sum_graph.specs.Graphs.{SumGraphView, products_in, sum_outputs}

-- A graph with the inputs of another one and, on every input, the values of its outputs, and with
-- fewer products in nodes and outputs together.
pub record IsFewerOf (g s : SumGraphView) : Type 0 where
  pub inputs : s.inputs ≡ g.inputs
  pub outputs : length s.outputs ≡ length g.outputs
  pub values : (input : List Bool) → sum_outputs s input ≡ sum_outputs g input
  pub products : products_in s.nodes + products_in s.outputs
      < products_in g.nodes + products_in g.outputs
