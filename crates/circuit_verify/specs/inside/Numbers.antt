-- The numbers of bits, nodes and lines in a diagram.
use Rattle.std.specs.Prelude.{◌≡◌, ◌≢◌, ℕ, ◌<◌, ◌≤◌, Bool, true, ◌&&◌, List, [], ◌∷◌, ◌++◌, length, map, replicate, take, slice_index}
use Rattle.std.specs.List.{AllByRecursion}
use Rattle.list_facts.specs.Bits.{bit_of, zeros}
use Rattle.dependency_graph.specs.declared.node.Base.{Base}
use Rattle.dependency_graph.specs.declared.node.Base.TheVariants as bases
use Rattle.dependency_graph.specs.declared.node.Node.{Node}
use Rattle.dependency_graph.specs.declared.node.Sig.{Sig}
use Rattle.dependency_graph.specs.Graphs.{made_by, node_bit, sig_bit}
use Rattle.decision_diagram.specs.Diagrams.{DiagramView, IsCanonical, IsNumber, Triple, function_of}
use Rattle.decision_diagram.specs.Functions.{AreSame, Assignment, Function, IsLeast}
use Rattle.decision_diagram.specs.Growth.{KeepsNodes}
use Rattle.claim_check.specs.Measures.{node_function}
use Rattle.claim_check.specs.Settled.{SettledView, IsSettled, settled_outputs}
use Rattle.claim_check.specs.Variables.{bits_at, over}
use Rattle.mct_circuit.specs.declared.gate.Control.{Control}
use Rattle.mct_circuit.specs.Gates.{GateView, after_gate, line_map}
use Rattle.circuit_plans.specs.declared.roles.Placing.{Placing}
use Rattle.circuit_plans.specs.declared.roles.Placing.TheVariants.{Added, InPlace}
use Rattle.circuit_plans.specs.declared.roles.Start.TheVariants.{Any, Zero}
use Rattle.circuit_verify.specs.Comparisons.{Comparison, order_in, start_on, variables_in, wanted_on}
use Rattle.circuit_verify.specs.Comparisons.{borrowed_bits, input_bits, inputs_in, looked_on, output_bits, work_lines}
use Rattle.circuit_verify.specs.LineFunctions.{Holder, IsHolder, IsMember, LineFunction, held_bit, value_on}

-- ---- functions over the variables

-- the bits that an assignment of the variables gives
abbrev pub bits_in : Comparison → Assignment → List Bool
bits_in q a = bits_at (variables_in q) (order_in q) a

abbrev pub holder_function : Comparison → Holder → Function
holder_function q h = over (variables_in q) (order_in q) (held_bit q h)

abbrev pub line_function : Comparison → LineFunction → Function
line_function q f = over (variables_in q) (order_in q) (value_on q f)

-- ---- diagrams

pub record IsMemberNode (q : Comparison) (nodes : List Triple) (n : ℕ) : Type 0 where
  pub function : LineFunction
  pub member : IsMember q function
  pub same : AreSame (function_of nodes n) (line_function q function)

-- each inner node stands for a line function
pub record HoldsLines (q : Comparison) (d : DiagramView) : Type 0 where
  pub canonical : IsCanonical d
  pub vars : d.vars ≡ variables_in q
  pub members : (n : ℕ) → 2 ≤ n → IsNumber d.nodes n → IsMemberNode q d.nodes n

-- the diagram has grown by line functions alone
pub record GrowsBy (q : Comparison) (old now : DiagramView) : Type 0 where
  pub holds : HoldsLines q now
  pub kept : KeepsNodes old now

-- ---- settled graphs

-- a settled graph over the inputs of a comparison, each of whose nodes is held
pub record HoldsNodesOf (q : Comparison) (s : SettledView) : Type 0 where
  pub inputs : inputs_in q ≡ s.inputs
  pub settled : IsSettled s
  pub holder : ℕ → Holder
  pub held : (k : ℕ) → k < length s.nodes → IsHolder q (holder k)
  pub same : (k : ℕ) (bits : List Bool)
      → held_bit q (holder k) bits ≡ node_function s k (input_bits q bits)

-- ---- numbers

-- the bits of numbers at an assignment
abbrev pub bits_under : List Triple → List ℕ → Assignment → List Bool
bits_under nodes numbers a = map (λ n. function_of nodes n a) numbers

abbrev pub AreKnown : List Triple → List ℕ → Type 0
AreKnown nodes numbers = AllByRecursion (IsNumber nodes) numbers

-- the numbers stand for these bits, one for each
pub record AreNumbersOf (q : Comparison) (nodes : List Triple) (numbers : List ℕ)
    (value : List Bool → List Bool) : Type 0 where
  pub known : AreKnown nodes numbers
  pub same : (a : Assignment) → bits_under nodes numbers a ≡ value (bits_in q a)

-- the numbers stand for the variables
abbrev pub AreVariableNumbers : Comparison → List Triple → List ℕ → Type 0
AreVariableNumbers q nodes numbers = AreNumbersOf q nodes numbers (λ bits. bits)

-- the numbers stand for what the output lines hold before the gates
abbrev pub AreHeldNumbers : Comparison → List Triple → List ℕ → Type 0
AreHeldNumbers q nodes numbers = AreNumbersOf q nodes numbers (output_bits q)

-- the numbers stand for the outputs of a settled graph
abbrev pub AreOutputNumbers : Comparison → SettledView → List Triple → List ℕ → Type 0
AreOutputNumbers q s nodes numbers =
    AreNumbersOf q nodes numbers (λ bits. settled_outputs s (input_bits q bits))

-- the values of the first nodes
abbrev pub first_values : SettledView → ℕ → List Bool → List Bool
first_values s count input = take count (made_by (bit_of input) [] s.nodes)

-- the function of a node, where its operands have numbers
abbrev pub node_function_of : List Triple → List ℕ → List ℕ → Node → Function
node_function_of table bits nodes node a =
    node_bit (bit_of (bits_under table bits a)) (bits_under table nodes a) node

abbrev pub sig_function_of : List Triple → List ℕ → List ℕ → Sig → Function
sig_function_of table bits nodes sig a =
    sig_bit (bit_of (bits_under table bits a)) (bits_under table nodes a) sig

-- the number of a base
abbrev pub base_number : List ℕ → List ℕ → Base → ℕ
base_number bits nodes (bases.Input i) = slice_index bits i
base_number bits nodes (bases.Node k) = slice_index nodes k

-- the function of a line behind a gate, where the lines have numbers
abbrev pub line_function_of : List Triple → List ℕ → GateView → ℕ → Function
line_function_of table lines gate line a = bit_of (after_gate gate (bits_under table lines a)) line

-- the numbers of the controls of a narrow gate, each `always` where there is none
abbrev pub control_numbers : List ℕ → ℕ → List Control → ℕ × ℕ
control_numbers lines always [] = (always, always)
control_numbers lines always (first ∷ []) = (slice_index lines first.line, always)
control_numbers lines always (first ∷ (second ∷ rest)) =
    (slice_index lines first.line, slice_index lines second.line)

-- the numbers of the output lines before the gates, by the numbers behind those of the inputs
abbrev pub held_numbers : Placing → ℕ → ℕ → List ℕ → List ℕ
held_numbers (Added Any) lines never behind = take lines behind
held_numbers (Added Zero) lines never behind = replicate lines never
held_numbers InPlace lines never behind = replicate lines never

-- the bits of the input lines and the output lines before the gates
abbrev pub first_ports : Comparison → List Bool → List Bool
first_ports q bits = input_bits q bits ++ output_bits q bits

-- numbers of all lines: whatever those of the input lines and the output lines stand for, the
-- others stand for zeros on the work lines, and for what the borrowed lines hold
pub record AreLaid (q : Comparison) (nodes : List Triple) (ports lines : List ℕ) : Type 0 where
  pub are : (value : List Bool → List Bool) → AreNumbersOf q nodes ports value
      → AreNumbersOf q nodes lines
      (λ bits. value bits ++ (zeros (work_lines q) ++ borrowed_bits q bits))

-- where two lists of numbers first differ
pub record DifferAt (now want : List ℕ) (line : ℕ) : Type 0 where
  pub inside : line < length now
  pub same : take line now ≡ take line want
  pub differ : slice_index now line ≢ slice_index want line

-- the numbers of the lines behind all gates, and those that they should have
pub record AreEnds (q : Comparison) (nodes : List Triple) (now want : List ℕ) : Type 0 where
  pub now_are : AreNumbersOf q nodes now (λ bits. line_map q.circuit.gates (start_on q bits))
  pub want_are : AreNumbersOf q nodes want (wanted_on q)

-- ---- bits that count only where the input is looked at

-- a bit where the input is looked at, and 0 elsewhere
abbrev pub where_looked : Comparison → List Bool → Bool → Bool
where_looked q bits bit = bit && looked_on q bits

abbrev pub looked_function : Comparison → Function
looked_function q = over (variables_in q) (order_in q) (looked_on q)

-- numbers of ends: a number for each line, whose bit is held where the input is looked at
pub record AreLineEnds (q : Comparison) (nodes : List Triple) (numbers : List ℕ) : Type 0 where
  pub value : List Bool → List Bool
  pub are : AreNumbersOf q nodes numbers value
  pub holder : ℕ → Holder
  pub held : (line : ℕ) → line < length numbers → IsHolder q (holder line)
  pub same : (line : ℕ) (bits : List Bool)
      → held_bit q (holder line) bits ≡ where_looked q bits (bit_of (value bits) line)

-- these stand for what those numbers stand for, where the input is looked at
pub record AreRestricted (q : Comparison) (old new : List Triple) (numbers restricted : List ℕ)
    : Type 0 where
  pub known : AreKnown new restricted
  pub same : (a : Assignment) → bits_under new restricted a
      ≡ map (where_looked q (bits_in q a)) (bits_under old numbers a)

-- the numbers of the lines behind all gates, and those that they should have, where the input is
-- looked at
pub record AreLookedEnds (q : Comparison) (nodes : List Triple) (now want : List ℕ) : Type 0 where
  pub now_are : AreNumbersOf q nodes now
      (λ bits. map (where_looked q bits) (line_map q.circuit.gates (start_on q bits)))
  pub want_are : AreNumbersOf q nodes want
      (λ bits. map (where_looked q bits) (wanted_on q bits))

-- the bits are those of the least assignment at which the function is true
pub record IsLeastApart (f : Function) (variables : List ℕ) (bits : List Bool) : Type 0 where
  pub assignment : Assignment
  pub least : IsLeast f true assignment
  pub are : bits ≡ map assignment variables
