-- Dependency graphs: nodes made of inputs and of earlier nodes, and what a tape's bits are in them.
use Rattle.std.specs.Prelude.{◌≡◌, ◌≢◌, ℕ, ◌<◌, ◌≤◌, Bool, false, not}
use Rattle.std.specs.Prelude.{◌&&◌, List, [], ◌∷◌, ◌++◌, length, map, slice_index_or, ⊤}
use Rattle.std.specs.Bool.{xor}
use Rattle.std.specs.List.{AllByRecursion, flat_map, sum_by}
use Rattle.list_facts.specs.Bits.{bit_of}
use Rattle.list_facts.specs.Lists.{AllFrom, IsAmong}
use Rattle.revs_tape.specs.declared.limits.TheConstants.{MOST_WRITES}
use Rattle.revs_tape.specs.declared.tape.Ref.{Ref}
use Rattle.revs_tape.specs.declared.tape.Ref.TheVariants as refs
use Rattle.revs_tape.specs.Measures.{inputs_of, writes_of}
use Rattle.revs_tape.specs.Tapes.{TapeView, bit_on}
use Rattle.dependency_graph.specs.declared.node.Base.{Base}
use Rattle.dependency_graph.specs.declared.node.Base.TheVariants as bases
use Rattle.dependency_graph.specs.declared.node.Node.{Node}
use Rattle.dependency_graph.specs.declared.node.Node.TheVariants.{Not, Xor, And}
use Rattle.dependency_graph.specs.declared.node.Sig.{Sig}
use Rattle.dependency_graph.specs.declared.node.Sig.TheVariants.{Const, Is}

-- a graph: the number of inputs, the nodes, what each write of the tape became, and what each
-- output became, in order
pub record GraphView : Type 0 where
  pub inputs : ℕ
  pub nodes : List Node
  pub sigs : List Sig
  pub outputs : List Sig

-- a base is made of itself
abbrev pub itself : Base → List Base
itself base = base ∷ []

-- the operands of a node
abbrev pub operands : Node → List Base
operands (Not a) = a ∷ []
operands (Xor a b) = a ∷ b ∷ []
operands (And a b) = a ∷ b ∷ []

abbrev pub and_count : Node → ℕ
and_count (Not a) = 0
and_count (Xor a b) = 0
and_count (And a b) = 1

-- how many of the nodes are ANDs
abbrev pub ands_in : List Node → ℕ
ands_in nodes = sum_by and_count nodes

-- what a bit of the tape is, with what each write became
abbrev pub sig_of : List Sig → Ref → Sig
sig_of writes (refs.Input i) = Is (bases.Input i)
sig_of writes (refs.Write j) = slice_index_or writes j (Const false)

-- the base that something is, where it is one
abbrev pub base_of : Sig → List Base
base_of (Const bit) = []
base_of (Is base) = base ∷ []

-- ---- nodes as steps

-- the node of a base, where it is one
abbrev pub node_of : Base → List ℕ
node_of (bases.Input i) = []
node_of (bases.Node k) = k ∷ []

-- the nodes among these
abbrev pub nodes_among : List Base → List ℕ
nodes_among some = flat_map node_of some

-- what is made of bases as steps: each with the nodes that it is made of
abbrev pub steps_by : {A : Type 0} → (A → List Base) → List A → List (List ℕ)
steps_by parts all = map (λ one. nodes_among (parts one)) all

-- the nodes of a graph as steps
abbrev pub steps_of : GraphView → List (List ℕ)
steps_of g = steps_by operands g.nodes

-- the nodes that are outputs
abbrev pub output_nodes : GraphView → List ℕ
output_nodes g = nodes_among (flat_map base_of g.outputs)

-- ---- what a graph keeps

-- one of n inputs, or of the nodes before the k-th
abbrev pub IsKnownBase : ℕ → ℕ → Base → Type 0
IsKnownBase n k (bases.Input i) = i < n
IsKnownBase n k (bases.Node j) = j < k

abbrev pub IsKnownSig : ℕ → ℕ → Sig → Type 0
IsKnownSig n k (Const bit) = ⊤
IsKnownSig n k (Is base) = IsKnownBase n k base

-- two operands are different
abbrev pub IsKnownNode : ℕ → ℕ → Node → Type 0
IsKnownNode n k (Not a) = IsKnownBase n k a
IsKnownNode n k (Xor a b) = IsKnownBase n k a × IsKnownBase n k b × (a ≢ b)
IsKnownNode n k (And a b) = IsKnownBase n k a × IsKnownBase n k b × (a ≢ b)

-- the nodes from the k-th on: each is made of inputs and of earlier nodes
abbrev pub AreKnownNodes : ℕ → ℕ → List Node → Type 0
AreKnownNodes n k nodes = AllFrom (IsKnownNode n) k nodes

-- What a graph keeps: operands are earlier and different, each node is what some write became, and
-- there are at most as many nodes as writes.
pub record IsGraph (g : GraphView) : Type 0 where
  pub nodes : AreKnownNodes g.inputs 0 g.nodes
  pub sigs : AllByRecursion (IsKnownSig g.inputs (length g.nodes)) g.sigs
  pub outputs : AllByRecursion (IsKnownSig g.inputs (length g.nodes)) g.outputs
  pub made : (k : ℕ) → k < length g.nodes → IsAmong (Is (bases.Node k)) g.sigs
  pub few : length g.nodes ≤ length g.sigs
  pub few_writes : length g.sigs ≤ MOST_WRITES

-- ---- values on an assignment, which gives each input a bit

-- the bit of a base, with the bits of the nodes
abbrev pub base_bit : (ℕ → Bool) → List Bool → Base → Bool
base_bit assignment made (bases.Input i) = assignment i
base_bit assignment made (bases.Node j) = bit_of made j

abbrev pub sig_bit : (ℕ → Bool) → List Bool → Sig → Bool
sig_bit assignment made (Const bit) = bit
sig_bit assignment made (Is base) = base_bit assignment made base

abbrev pub node_bit : (ℕ → Bool) → List Bool → Node → Bool
node_bit assignment made (Not a) = not (base_bit assignment made a)
node_bit assignment made (Xor a b) =
    xor (base_bit assignment made a) (base_bit assignment made b)
node_bit assignment made (And a b) =
    base_bit assignment made a && base_bit assignment made b

-- the bits made so far, and then those of these steps, one after another
abbrev pub bits_made : {A : Type 0} → (List Bool → A → Bool) → List Bool → List A → List Bool
bits_made bit made [] = made
bits_made bit made (step ∷ rest) = bits_made bit (made ++ bit made step ∷ []) rest

abbrev pub made_by : (ℕ → Bool) → List Bool → List Node → List Bool
made_by assignment made nodes = bits_made (node_bit assignment) made nodes

-- the value of a base or a constant of a graph
abbrev pub value_on : GraphView → (ℕ → Bool) → Sig → Bool
value_on g assignment sig = sig_bit assignment (made_by assignment [] g.nodes) sig

-- The graph of a tape: it has the inputs of the tape, something for each write and each output, and
-- on every input each bit of the tape has its value in the graph.
pub record IsGraphOf (t : TapeView) (g : GraphView) : Type 0 where
  pub inputs : g.inputs ≡ inputs_of t
  pub writes : length g.sigs ≡ writes_of t
  pub outputs : g.outputs ≡ map (sig_of g.sigs) t.outputs
  pub values : (input : List Bool) (ref : Ref)
      → value_on g (bit_of input) (sig_of g.sigs ref) ≡ bit_on t input ref
