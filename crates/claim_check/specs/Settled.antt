-- Settled graphs: only the nodes on which an output rests, renumbered in their order.
use Rattle.std.specs.Prelude.{◌≡◌, ℕ, ◌<◌, ◌≤◌, Bool, List, [], length, map}
use Rattle.std.specs.List.{AllByRecursion}
use Rattle.list_facts.specs.Bits.{bit_of}
use Rattle.revs_tape.specs.declared.limits.TheConstants.{MOST_INPUTS, MOST_OUTPUTS, MOST_WRITES}
use Rattle.revs_tape.specs.declared.tape.Ref.TheVariants as refs
use Rattle.revs_tape.specs.Measures.{inputs_of, outputs_of, writes_of}
use Rattle.revs_tape.specs.Tapes.{TapeView, bit_on, outputs_on}
use Rattle.dependency_graph.specs.declared.node.Base.TheVariants as bases
use Rattle.dependency_graph.specs.declared.node.Node.{Node}
use Rattle.dependency_graph.specs.declared.node.Sig.{Sig}
use Rattle.dependency_graph.specs.declared.node.Sig.TheVariants.{Is}
use Rattle.dependency_graph.specs.Graphs.{GraphView, AreKnownNodes, IsKnownSig, value_on}
use Rattle.dependency_graph.specs.Uses.{last_use_in}

-- a settled graph: the number of inputs, the nodes and the outputs
pub record SettledView : Type 0 where
  pub inputs : ℕ
  pub nodes : List Node
  pub outputs : List Sig

-- a settled graph as a graph that says nothing of the writes of a tape
abbrev pub as_graph : SettledView → GraphView
as_graph s = record { inputs = s.inputs; nodes = s.nodes; sigs = []; outputs = s.outputs }

-- the value of a base or a constant on an input
abbrev pub settled_value : SettledView → List Bool → Sig → Bool
settled_value s input sig = value_on (as_graph s) (bit_of input) sig

-- the bits of the outputs on an input
abbrev pub settled_outputs : SettledView → List Bool → List Bool
settled_outputs s input = map (settled_value s input) s.outputs

-- What a settled graph keeps: operands are earlier and different, each node is an operand or an
-- output, and the limits hold.
pub record IsSettled (s : SettledView) : Type 0 where
  pub nodes : AreKnownNodes s.inputs 0 s.nodes
  pub outputs : AllByRecursion (IsKnownSig s.inputs (length s.nodes)) s.outputs
  pub used : (k : ℕ) → k < length s.nodes → k < last_use_in (as_graph s) k
  pub few_inputs : s.inputs ≤ MOST_INPUTS
  pub few_outputs : length s.outputs ≤ MOST_OUTPUTS
  pub few_nodes : length s.nodes ≤ MOST_WRITES

-- node k has the value of this write of the tape on every input
pub record HasValueOfWrite (t : TapeView) (s : SettledView) (k : ℕ) : Type 0 where
  pub write : ℕ
  pub known : write < writes_of t
  pub same : (input : List Bool)
      → settled_value s input (Is (bases.Node k)) ≡ bit_on t input (refs.Write write)

-- The settled graph of a tape: it has the inputs of the tape, its outputs have the values of the
-- tape's outputs, and each node has the value of some write.
pub record IsSettledOf (t : TapeView) (s : SettledView) : Type 0 where
  pub inputs : s.inputs ≡ inputs_of t
  pub outputs : length s.outputs ≡ outputs_of t
  pub values : (input : List Bool) → settled_outputs s input ≡ outputs_on t input
  pub made : (k : ℕ) → k < length s.nodes → HasValueOfWrite t s k
  pub few : length s.nodes ≤ writes_of t
