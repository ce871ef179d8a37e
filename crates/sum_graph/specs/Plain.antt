-- The plain graph of a settled graph: each node is its own sum, with its operands in their order.
use Rattle.std.specs.Prelude.{◌≡◌, ℕ, true, false, Bool, List, [], ◌∷◌, map}
use Rattle.dependency_graph.specs.declared.node.Base.TheVariants as bases
use Rattle.dependency_graph.specs.declared.node.Node.{Node}
use Rattle.dependency_graph.specs.declared.node.Node.TheVariants.{Not, Xor, And}
use Rattle.dependency_graph.specs.declared.node.Sig.{Sig}
use Rattle.dependency_graph.specs.declared.node.Sig.TheVariants.{Const, Is}
use Rattle.dependency_graph.specs.Graphs.{output_nodes, steps_of}
use Rattle.claim_check.specs.Settled.{SettledView, as_graph, settled_outputs, settled_value}
use Rattle.bit_sums.specs.Sums.{SumView}
use Rattle.sum_graph.specs.Graphs.{SumGraphView, node_value, sum_outputs}
use Rattle.sum_graph.specs.Uses.{sum_output_nodes, sum_steps}

-- a negation is a bit and the constant, an AND one product of two bits
abbrev pub plain_sum : Node → SumView
plain_sum (Not a) = record { bits = a ∷ []; products = []; one = true }
plain_sum (Xor a b) = record { bits = a ∷ b ∷ []; products = []; one = false }
plain_sum (And a b) =
    record { bits = []; products = record { first = a ∷ []; second = b ∷ [] } ∷ []; one = false }

abbrev pub plain_output : Sig → SumView
plain_output (Const bit) = record { bits = []; products = []; one = bit }
plain_output (Is base) = record { bits = base ∷ []; products = []; one = false }

abbrev pub plain_of : SettledView → SumGraphView
plain_of s = record {
  inputs = s.inputs;
  nodes = map plain_sum s.nodes;
  outputs = map plain_output s.outputs;
}

-- The plain graph has the values of the settled graph, and each node and output is made of the same
-- nodes.
pub record IsAlike (s : SettledView) : Type 0 where
  pub outputs : (input : List Bool) → sum_outputs (plain_of s) input ≡ settled_outputs s input
  pub nodes : (input : List Bool) (k : ℕ)
      → node_value (plain_of s) input k ≡ settled_value s input (Is (bases.Node k))
  pub steps : sum_steps (plain_of s) ≡ steps_of (as_graph s)
  pub output_nodes : sum_output_nodes (plain_of s) ≡ output_nodes (as_graph s)

-- The law of plain graphs: each is like the settled graph that it is made of.
abbrev pub PlainGraphsAreAlike : Type 0
PlainGraphsAreAlike = (s : SettledView) → IsAlike s
