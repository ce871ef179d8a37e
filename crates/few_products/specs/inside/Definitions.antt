-- The sums of nodes before anything is done, and steps that keep the values of nodes.
use Rattle.std.specs.Prelude.{◌≡◌, ℕ, Bool, List, ◌++◌, length, take}
use Rattle.dependency_graph.specs.declared.node.Base.{Base}
use Rattle.bit_sums.specs.Sums.{SumView}
use Rattle.sum_graph.specs.Graphs.{AreKnownSums, SumGraphView}
use Rattle.wide_sums.specs.Wide.{Holds}

-- the sums of all nodes and of the first k outputs, each of which is of inputs and earlier ones
pub record AreBegun (g : SumGraphView) (k : ℕ) (all : List SumView) : Type 0 where
  pub is : all ≡ g.nodes ++ take k g.outputs
  pub known : AreKnownSums g.inputs 0 all

-- the sums of nodes and outputs, and behind them more, each of inputs and earlier ones
pub record AreDefinitions (g : SumGraphView) (all : List SumView) : Type 0 where
  pub more : List SumView
  pub is : all ≡ (g.nodes ++ g.outputs) ++ more
  pub known : AreKnownSums g.inputs 0 all

-- wherever the old definitions hold, so many new ones do
pub record AreKept (old new : List SumView) : Type 0 where
  pub holds : (bit : Base → Bool) → Holds old bit → Holds new bit
  pub long : length new ≡ length old
