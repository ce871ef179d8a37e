-- A graph that is rewritten: definitions that hold on every input, and what is written of them.
use Rattle.std.specs.Prelude.{◌≡◌, ℕ, ◌+◌, Bool, List, Some, length, slice_get}
use Rattle.dependency_graph.specs.declared.node.Base.{Base}
use Rattle.dependency_graph.specs.declared.node.Base.TheVariants as bases
use Rattle.bit_sums.specs.Sums.{SumView}
use Rattle.sum_graph.specs.Graphs.{IsSumGraph, SumGraphView, sum_on, sum_outputs}
use Rattle.few_products.specs.inside.Writing.{IsValuation}

-- bits of bases on an input for which the definitions hold and outputs are nodes behind the nodes
pub record HasValuation (g : SumGraphView) (definitions : List SumView) (input : List Bool)
    : Type 0 where
  pub bit : Base → Bool
  pub valuation : IsValuation definitions input bit
  pub outputs : (j : ℕ) (s : SumView) → slice_get g.outputs j ≡ Some s
      → bit (bases.Node (length g.nodes + j)) ≡ sum_on g.nodes input s

-- there are such bits on every input
pub record AreRewritten (g : SumGraphView) (definitions : List SumView) : Type 0 where
  pub each : (input : List Bool) → HasValuation g definitions input

-- a graph with the inputs of another one and the values of its outputs
pub record IsRewritten (g s : SumGraphView) : Type 0 where
  pub keeps : IsSumGraph s
  pub inputs : s.inputs ≡ g.inputs
  pub outputs : length s.outputs ≡ length g.outputs
  pub values : (input : List Bool) → sum_outputs s input ≡ sum_outputs g input
