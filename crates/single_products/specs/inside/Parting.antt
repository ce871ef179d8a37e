-- What parting the products of a graph of sums keeps, node by node and output by output.
use Rattle.std.specs.Prelude.{◌≡◌, ℕ, ◌+◌, ◌<◌, ◌≤◌, Bool, cond, List, length, map, take}
use Rattle.std.specs.Prelude.{Option, None, Some}
use Rattle.std.specs.List.{AllByRecursion}
use Rattle.list_facts.specs.Lists.{AllFrom}
use Rattle.dependency_graph.specs.declared.node.Base.TheVariants as bases
use Rattle.bit_sums.specs.Growing.{IsFinished}
use Rattle.bit_sums.specs.Sums.{ProductView, SumView}
use Rattle.sum_graph.specs.Graphs.{AreKnownSums, HasFewBits, IsKnownSum, IsNodeAt, SumGraphView, node_value, products_in, sum_on}
use Rattle.single_products.specs.Singles.{HasNoProduct, HasOneProduct}
use Rattle.single_products.specs.inside.Renumbering.{IsRebuilt, bit_on, product_sum, with_first}

-- ---- steps

-- a product that is kept in its sum, or becomes a node
pub record IsPart (kept : Bool) (places : List ℕ) (p : ProductView) (old new : List SumView)
    (sum : SumView) : Type 0 where
  pub rebuilt : IsRebuilt places (product_sum p) old new sum
  pub left : length sum.products ≤ cond kept 1 0

-- the sum with its first k products, of which one at most is kept, at this place
pub record IsRebuiltTo (k kept : ℕ) (places : List ℕ) (s : SumView) (old new : List SumView)
    (sum : SumView) : Type 0 where
  pub rebuilt : IsRebuilt places (with_first k s) old new sum
  pub one : length sum.products ≤ 1
  pub before : k ≤ kept → length sum.products ≡ 0

-- the sum with all of its products, of which one at most is kept, at this place
pub record IsRebuiltBut (kept : ℕ) (places : List ℕ) (s : SumView) (old new : List SumView)
    (sum : SumView) : Type 0 where
  pub rebuilt : IsRebuilt places s old new sum
  pub one : length sum.products ≤ 1
  pub none : length s.products ≤ kept → length sum.products ≡ 0

-- the node of a sum, behind those of its products
pub record IsNodeRebuilt (places : List ℕ) (s : SumView) (old new : List SumView) (place : ℕ)
    : Type 0 where
  pub between : List SumView
  pub sum : SumView
  pub rebuilt : IsRebuilt places s old between sum
  pub one : length sum.products ≤ 1
  pub whole : SumView
  pub finished : IsFinished sum whole
  pub at : IsNodeAt whole between new place

-- an output, behind the nodes of its products
pub record IsOutputRebuilt (places : List ℕ) (s : SumView) (old new : List SumView)
    (whole : SumView) : Type 0 where
  pub sum : SumView
  pub rebuilt : IsRebuilt places s old new sum
  pub none : length sum.products ≡ 0
  pub finished : IsFinished sum whole

-- ---- nodes and outputs

-- a node has the value of the j-th node of a graph
pub record StandsFor (g : SumGraphView) (nodes : List SumView) (j place : ℕ) : Type 0 where
  pub within : place < length nodes
  pub values : (input : List Bool)
      → bit_on nodes input (bases.Node place) ≡ node_value g input j

-- the nodes of a graph stand at these places; each node has one product at most
pub record AreStanding (g : SumGraphView) (places : List ℕ) (nodes : List SumView) : Type 0 where
  pub known : AreKnownSums g.inputs 0 nodes
  pub each : AllFrom (StandsFor g nodes) 0 places
  pub single : AllByRecursion HasOneProduct nodes
  pub few_bits : AllByRecursion HasFewBits nodes

-- the first k nodes of a graph stand at these places
pub record AreNodesParted (g : SumGraphView) (k : ℕ) (places : List ℕ) (nodes : List SumView)
    : Type 0 where
  pub standing : AreStanding g places nodes
  pub long : length places ≡ k
  pub few : length nodes ≤ k + products_in (take k g.nodes)
  pub products : products_in nodes ≤ products_in (take k g.nodes)

-- all nodes of a graph stand at these places, and the sums have the values of its first j outputs
pub record AreOutputsParted (g : SumGraphView) (j : ℕ) (places : List ℕ) (nodes : List SumView)
    (sums : List SumView) : Type 0 where
  pub standing : AreStanding g places nodes
  pub long : length places ≡ length g.nodes
  pub many : length sums ≡ j
  pub known : AllByRecursion (IsKnownSum g.inputs (length nodes)) sums
  pub values : (input : List Bool)
      → map (sum_on nodes input) sums ≡ map (sum_on g.nodes input) (take j g.outputs)
  pub bits : AllByRecursion HasNoProduct sums
  pub few : length nodes ≤ length g.nodes + products_in g.nodes + products_in (take j g.outputs)
  pub products : products_in nodes ≤ products_in g.nodes + products_in (take j g.outputs)

-- ---- room

-- what is left of a number, and none where less was there than is spent
abbrev pub IsLeft : ℕ → ℕ → Option ℕ → Type 0
IsLeft old spent None = old < spent
IsLeft old spent (Some new) = new + spent ≡ old
