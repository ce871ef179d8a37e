-- Graphs of sums: nodes that are sums of inputs, of earlier nodes, and of products of two sums of
-- these.
use Rattle.std.specs.Prelude.{◌≡◌, ◌⊎◌, ℕ, ◌+◌, ◌*◌, ◌≤◌, Bool, false, List, [], ◌∷◌, ◌++◌, length, map, nat_lt}
use Rattle.std.specs.Prelude.{Some, slice_get}
use Rattle.std.specs.List.{AllByRecursion, sum_by}
use Rattle.list_facts.specs.Bits.{bit_of}
use Rattle.list_facts.specs.Lists.{AllFrom}
use Rattle.revs_tape.specs.declared.limits.TheConstants.{MOST_INPUTS, MOST_OUTPUTS, MOST_WRITES}
use Rattle.dependency_graph.specs.declared.node.Base.{Base}
use Rattle.dependency_graph.specs.declared.node.Base.TheVariants as bases
use Rattle.dependency_graph.specs.Graphs.{ands_in, base_bit, bits_made}
use Rattle.claim_check.specs.Settled.{SettledView, settled_outputs}
pub use Rattle.bit_sums.specs.Products.{HasFewBits}
use Rattle.bit_sums.specs.Sums.{SumView, IsSumOver, sum_value, weight_of}
use Rattle.sum_graph.specs.Lone.{GoToOneOutput, ands_beside}

-- a graph of sums: the number of inputs, the nodes and the outputs
pub record SumGraphView : Type 0 where
  pub inputs : ℕ
  pub nodes : List SumView
  pub outputs : List SumView

-- the number of inputs and outputs: the first line behind those of the inputs and outputs
abbrev pub first_work : SumGraphView → ℕ
first_work g = g.inputs + length g.outputs

-- ---- what a graph of sums keeps

-- one of n inputs, or of the nodes before the k-th
abbrev pub is_known : ℕ → ℕ → Base → Bool
is_known n k (bases.Input i) = nat_lt i n
is_known n k (bases.Node j) = nat_lt j k

abbrev pub IsKnownSum : ℕ → ℕ → SumView → Type 0
IsKnownSum n k s = IsSumOver (is_known n k) s

-- the nodes from the k-th on: each is a sum of inputs and of earlier nodes
abbrev pub AreKnownSums : ℕ → ℕ → List SumView → Type 0
AreKnownSums n k sums = AllFrom (IsKnownSum n) k sums

-- What a graph of sums keeps: they are of inputs and of earlier nodes, there are no nodes without
-- outputs, and the limits hold.
pub record IsSumGraph (l : SumGraphView) : Type 0 where
  pub nodes : AreKnownSums l.inputs 0 l.nodes
  pub outputs : AllByRecursion (IsKnownSum l.inputs (length l.nodes)) l.outputs
  pub some : 1 ≤ length l.nodes → 1 ≤ length l.outputs
  pub few_inputs : l.inputs ≤ MOST_INPUTS
  pub few_outputs : length l.outputs ≤ MOST_OUTPUTS
  pub few_nodes : length l.nodes ≤ MOST_WRITES

-- ---- sums as nodes

-- a bit as a sum
abbrev pub bit_sum : Base → SumView
bit_sum base = record { bits = base ∷ []; products = []; one = false }

-- the place of a sum among the nodes, a new one or one that was there
pub record IsNodeAt (sum : SumView) (old new : List SumView) (place : ℕ) : Type 0 where
  pub grown : (new ≡ old) ⊎ (new ≡ old ++ sum ∷ [])
  pub found : slice_get new place ≡ Some sum

-- ---- values on an input

-- the value of a sum, with the bits of the nodes
abbrev pub sum_bit : (ℕ → Bool) → List Bool → SumView → Bool
sum_bit assignment made s = sum_value (base_bit assignment made) s

-- the bits made so far, and then those of these nodes, one after another
abbrev pub sums_made : (ℕ → Bool) → List Bool → List SumView → List Bool
sums_made assignment made sums = bits_made (sum_bit assignment) made sums

-- the value of a sum over these nodes
abbrev pub sum_on : List SumView → List Bool → SumView → Bool
sum_on nodes input s = sum_value (base_bit (bit_of input) (sums_made (bit_of input) [] nodes)) s

-- the value of a node on an input
abbrev pub node_value : SumGraphView → List Bool → ℕ → Bool
node_value g input k = bit_of (sums_made (bit_of input) [] g.nodes) k

-- the bits of the outputs on an input
abbrev pub sum_outputs : SumGraphView → List Bool → List Bool
sum_outputs l input = map (sum_on l.nodes input) l.outputs

-- ---- what is counted

-- the products of some sums
abbrev pub products_in : List SumView → ℕ
products_in sums = sum_by (λ (s : SumView). length s.products) sums

-- what some sums weigh
abbrev pub weight_in : List SumView → ℕ
weight_in sums = sum_by weight_of sums

-- a sum without the constant
abbrev pub HasNoConstant : SumView → Type 0
HasNoConstant sum = sum.one ≡ false

-- The lean graph of a settled graph: it has the inputs of that, and on every input the values of
-- its outputs; it has no more nodes, and no more products than the settled graph has ANDs; an AND
-- that goes to one output alone is no product of a node. Its nodes weigh no more than 29 for each
-- settled one, and have no constant.
pub record IsLeanOf (s : SettledView) (l : SumGraphView) : Type 0 where
  pub inputs : l.inputs ≡ s.inputs
  pub outputs : length l.outputs ≡ length s.outputs
  pub values : (input : List Bool) → sum_outputs l input ≡ settled_outputs s input
  pub few : length l.nodes ≤ length s.nodes
  pub products : products_in l.nodes + products_in l.outputs ≤ ands_in s.nodes
  pub nodes_beside : (lone : ℕ → Bool) → GoToOneOutput s lone
      → products_in l.nodes ≤ ands_beside lone s.nodes
  pub light : weight_in l.nodes + weight_in l.outputs ≤ 29 * length s.nodes + 4 * length s.outputs
  pub light_nodes : weight_in l.nodes ≤ 29 * length s.nodes
  pub no_constants : AllByRecursion HasNoConstant l.nodes
  pub few_bits : AllByRecursion HasFewBits l.nodes
  pub few_output_bits : AllByRecursion HasFewBits l.outputs
