-- The copied graph of a settled graph: for each node three sums, two copies of its operands, and
-- its value of these.
use Rattle.std.specs.Prelude.{◌≡◌, ℕ, ◌+◌, ◌*◌, ◌<◌, ⊤, false, List, [], ◌∷◌, ◌++◌, map}
use Rattle.dependency_graph.specs.declared.node.Base.{Base}
use Rattle.dependency_graph.specs.declared.node.Base.TheVariants as bases
use Rattle.dependency_graph.specs.declared.node.Node.{Node}
use Rattle.dependency_graph.specs.declared.node.Node.TheVariants.{Not, Xor, And}
use Rattle.dependency_graph.specs.declared.node.Sig.{Sig}
use Rattle.dependency_graph.specs.declared.node.Sig.TheVariants.{Const, Is}
use Rattle.revs_tape.specs.declared.limits.TheConstants.{MOST_WRITES}
use Rattle.claim_check.specs.Settled.{SettledView}
use Rattle.bit_sums.specs.Sums.{SumView}
use Rattle.sum_graph.specs.Graphs.{SumGraphView}
use Rattle.sum_graph.specs.Plain.{plain_output, plain_sum}

-- the base of the copied graph that has a base's value
abbrev pub copied_base : Base → Base
copied_base (bases.Input i) = bases.Input i
copied_base (bases.Node j) = bases.Node (3 * j + 2)

-- a copy of a base, and a sum of nothing
abbrev pub copy_of : Base → SumView
copy_of base = plain_output (Is (copied_base base))

abbrev pub no_copy : SumView
no_copy = plain_output (Const false)

-- the node's operation on the copies, which are the nodes k and k + 1
abbrev pub on_copies : ℕ → Node → Node
on_copies k (Not a) = Not (bases.Node k)
on_copies k (Xor a b) = Xor (bases.Node k) (bases.Node (k + 1))
on_copies k (And a b) = And (bases.Node k) (bases.Node (k + 1))

-- the copies of a node's operands
abbrev pub copies_of : Node → List SumView
copies_of (Not a) = copy_of a ∷ no_copy ∷ []
copies_of (Xor a b) = copy_of a ∷ copy_of b ∷ []
copies_of (And a b) = copy_of a ∷ copy_of b ∷ []

-- the three sums of a node, of which the first is the node k
abbrev pub copied_sums : ℕ → Node → List SumView
copied_sums k node = copies_of node ++ plain_sum (on_copies k node) ∷ []

-- those of some nodes, the first of which is the k-th
abbrev pub copied_nodes : ℕ → List Node → List SumView
copied_nodes k [] = []
copied_nodes k (node ∷ rest) = copied_sums (3 * k) node ++ copied_nodes (k + 1) rest

abbrev pub copied_output : Sig → SumView
copied_output (Const bit) = plain_output (Const bit)
copied_output (Is base) = copy_of base

abbrev pub copied_of : SettledView → SumGraphView
copied_of s = record {
  inputs = s.inputs;
  nodes = copied_nodes 0 s.nodes;
  outputs = map copied_output s.outputs;
}

-- ---- numbers that fit

-- a node is one of so many
abbrev pub IsFewBase : Base → Type 0
IsFewBase (bases.Input i) = ⊤
IsFewBase (bases.Node j) = j < MOST_WRITES

abbrev pub IsFewSig : Sig → Type 0
IsFewSig (Const bit) = ⊤
IsFewSig (Is base) = IsFewBase base

-- each operand is
abbrev pub HasFewOperands : Node → Type 0
HasFewOperands (Not a) = IsFewBase a
HasFewOperands (Xor a b) = IsFewBase a × IsFewBase b
HasFewOperands (And a b) = IsFewBase a × IsFewBase b

-- what is copied of a node: its operands, or one and nothing
pub record AreOperands (node : Node) (first second : Sig) : Type 0 where
  pub copies : copies_of node ≡ copied_output first ∷ copied_output second ∷ []
  pub first_few : IsFewSig first
  pub second_few : IsFewSig second
