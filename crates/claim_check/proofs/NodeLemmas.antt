-- The value of a node is made of the values of its operands.
use Rattle.std.proofs.Common.{◌≡◌, ℕ, Bool, not, ◌&&◌, List, [], ◌++◌, length, slice_get, Some, refl, ap, ◌∙◌}
use Rattle.std.specs.Bool.{xor}
use Rattle.std.proofs.lemmas.List.{get_or_append_left}
use Rattle.list_facts.specs.Bits.{bit_of}
use Rattle.list_facts.proofs.AllLemmas.{AllFrom-at}
use Rattle.dependency_graph.proofs.MadeLemmas.{made_at}
use Rattle.claim_check.specs.Settled.{SettledView}
use Rattle.dependency_graph.specs.declared.node.Base.{Base}
use Rattle.dependency_graph.specs.declared.node.Base.TheVariants as bases
use Rattle.dependency_graph.specs.declared.node.Node.{Node}
use Rattle.dependency_graph.specs.declared.node.Node.TheVariants.{Not, Xor, And}
use Rattle.dependency_graph.specs.Graphs.{AreKnownNodes, IsKnownBase, IsKnownNode, base_bit, node_bit, made_by}
use Rattle.claim_check.specs.Measures.{node_function}

-- the values of all nodes on an input
abbrev pub values_on : SettledView → List Bool → List Bool
values_on s input = made_by (bit_of input) [] s.nodes

-- ---- bits made later change no earlier ones

base_bit-front : (n : ℕ) (assignment : ℕ → Bool) (made more : List Bool) (base : Base) → IsKnownBase n (length made) base
    → base_bit assignment (made ++ more) base ≡ base_bit assignment made base
base_bit-front n assignment made more (bases.Input i) known = refl
base_bit-front n assignment made more (bases.Node j) known = get_or_append_left made more _ j known

node_bit-front : (n : ℕ) (assignment : ℕ → Bool) (made more : List Bool) (node : Node) → IsKnownNode n (length made) node
    → node_bit assignment (made ++ more) node ≡ node_bit assignment made node
node_bit-front n assignment made more (Not a) known = ap not (base_bit-front n assignment made more a known)
node_bit-front n assignment made more (Xor a b) known =
    ap (λ bit. xor bit (base_bit assignment (made ++ more) b)) (base_bit-front n assignment made more a known.0)
    ∙ ap (xor (base_bit assignment made a)) (base_bit-front n assignment made more b known.1)
node_bit-front n assignment made more (And a b) known =
    ap (λ bit. bit && base_bit assignment (made ++ more) b) (base_bit-front n assignment made more a known.0)
    ∙ ap (λ bit. base_bit assignment made a && bit) (base_bit-front n assignment made more b known.1)

-- a node's value is that of its form over the values of all nodes
pub value_of_node : (s : SettledView) (input : List Bool) (k : ℕ) (node : Node) → AreKnownNodes s.inputs 0 s.nodes → slice_get s.nodes k ≡ Some node
    → node_function s k input ≡ node_bit (bit_of input) (values_on s input) node
value_of_node s input k node known is =
    made_at (node_bit (bit_of input)) (IsKnownNode s.inputs) (node_bit-front s.inputs (bit_of input)) s.nodes k node known is

-- ---- known nodes

-- the node at a place is known there
pub known_at : (n k : ℕ) (nodes : List Node) (node : Node) → AreKnownNodes n 0 nodes → slice_get nodes k ≡ Some node → IsKnownNode n k node
known_at n k nodes node known is = AllFrom-at (IsKnownNode n) k nodes node known is
