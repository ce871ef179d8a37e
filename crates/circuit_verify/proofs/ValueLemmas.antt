-- The functions of nodes and outputs, where what they are made of has numbers.
use Rattle.std.proofs.Common.{◌≡◌, ℕ, ◌+◌, ◌<◌, ◌≤◌, Bool, true, false, not, ◌&&◌, List, [], ◌∷◌, ◌++◌, length, slice_get, Some}
use Rattle.std.proofs.Common.{refl, sym, ap, ap₂, ◌∙◌, subst, arith, length-append, Result}
use Rattle.std.specs.Bool.{xor}
use Rattle.std.proofs.lemmas.List.{get_or-take, take_more}
use Rattle.list_facts.specs.Bits.{bit_of}
use Rattle.list_facts.proofs.BitLemmas.{xor_one, xor_swap}
use Rattle.dependency_graph.specs.declared.node.Base.{Base}
use Rattle.dependency_graph.specs.declared.node.Base.TheVariants as bases
use Rattle.dependency_graph.specs.declared.node.Node.{Node}
use Rattle.dependency_graph.specs.declared.node.Node.TheVariants.{Not, Xor, And}
use Rattle.dependency_graph.specs.declared.node.Sig.{Sig}
use Rattle.dependency_graph.specs.declared.node.Sig.TheVariants.{Const, Is}
use Rattle.dependency_graph.specs.Graphs.{IsKnownBase, IsKnownNode, IsKnownSig, base_bit, made_by, node_bit, sig_bit}
use Rattle.decision_diagram.specs.declared.node.DdFault.{DdFault}
use Rattle.decision_diagram.specs.Diagrams.{DiagramView, IsNumber, Triple, function_of}
use Rattle.decision_diagram.specs.Functions.{AreSame, Assignment, Function, exclusive_or}
use Rattle.decision_diagram.specs.Growth.{Computes, StandsFor}
use Rattle.decision_diagram.proofs.GrowthLemmas.{computes_same}
use Rattle.claim_check.specs.Measures.{node_function}
use Rattle.claim_check.specs.Settled.{SettledView, IsSettled, settled_value}
use Rattle.claim_check.proofs.NodeLemmas.{value_of_node, values_on}
use Rattle.circuit_verify.specs.Comparisons.{Comparison, input_bits, inputs_in}
use Rattle.circuit_verify.specs.inside.Numbers.{AreKnown, AreNumbersOf, base_number, bits_in, bits_under, first_values, node_function_of, sig_function_of}
use Rattle.circuit_verify.proofs.NumberLemmas.{bit-at, known-at}

-- ---- bases

pub base_known : (table : List Triple) (bits nodes : List ℕ) (base : Base) → AreKnown table bits → AreKnown table nodes
    → IsKnownBase (length bits) (length nodes) base → IsNumber table (base_number bits nodes base)
base_known table bits nodes (bases.Input i) known_bits known_nodes known = known-at table bits i known_bits known
base_known table bits nodes (bases.Node k) known_bits known_nodes known = known-at table nodes k known_nodes known

pub base_is : (table : List Triple) (bits nodes : List ℕ) (base : Base) (a : Assignment) → IsKnownBase (length bits) (length nodes) base
    → function_of table (base_number bits nodes base) a ≡ base_bit (bit_of (bits_under table bits a)) (bits_under table nodes a) base
base_is table bits nodes (bases.Input i) a known = bit-at table bits i a known
base_is table bits nodes (bases.Node k) a known = bit-at table nodes k a known

-- ---- nodes and outputs, with the functions of their operands

pub not_is : (table : List Triple) (bits nodes : List ℕ) (x : Base) (always : ℕ) → IsKnownBase (length bits) (length nodes) x
    → StandsFor table always (λ a. true)
    → AreSame (λ a. xor (function_of table (base_number bits nodes x) a) (function_of table always a)) (node_function_of table bits nodes (Not x))
not_is table bits nodes x always known is = λ a.
    ap₂ xor (base_is table bits nodes x a known) (is.same a)
    ∙ xor_swap (base_bit (bit_of (bits_under table bits a)) (bits_under table nodes a) x) true
    ∙ xor_one (base_bit (bit_of (bits_under table bits a)) (bits_under table nodes a) x)

pub xor_is : (table : List Triple) (bits nodes : List ℕ) (x y : Base) → IsKnownBase (length bits) (length nodes) x
    → IsKnownBase (length bits) (length nodes) y
    → AreSame (λ a. xor (function_of table (base_number bits nodes x) a) (function_of table (base_number bits nodes y) a))
    (node_function_of table bits nodes (Xor x y))
xor_is table bits nodes x y known other = λ a. ap₂ xor (base_is table bits nodes x a known) (base_is table bits nodes y a other)

pub and_is : (table : List Triple) (bits nodes : List ℕ) (x y : Base) → IsKnownBase (length bits) (length nodes) x
    → IsKnownBase (length bits) (length nodes) y
    → AreSame (λ a. function_of table (base_number bits nodes x) a && function_of table (base_number bits nodes y) a)
    (node_function_of table bits nodes (And x y))
and_is table bits nodes x y known other = λ a. ap₂ ◌&&◌ (base_is table bits nodes x a known) (base_is table bits nodes y a other)

-- ---- values that agree where they are asked

base_agree : (n k : ℕ) (f g : ℕ → Bool) (made other : List Bool) (base : Base) → IsKnownBase n k base → ((i : ℕ) → i < n → f i ≡ g i)
    → ((j : ℕ) → j < k → bit_of made j ≡ bit_of other j) → base_bit f made base ≡ base_bit g other base
base_agree n k f g made other (bases.Input i) known inputs nodes = inputs i known
base_agree n k f g made other (bases.Node j) known inputs nodes = nodes j known

node_agree : (n k : ℕ) (f g : ℕ → Bool) (made other : List Bool) (node : Node) → IsKnownNode n k node → ((i : ℕ) → i < n → f i ≡ g i)
    → ((j : ℕ) → j < k → bit_of made j ≡ bit_of other j) → node_bit f made node ≡ node_bit g other node
node_agree n k f g made other (Not x) known inputs nodes = ap not (base_agree n k f g made other x known inputs nodes)
node_agree n k f g made other (Xor x y) known inputs nodes =
    ap₂ xor (base_agree n k f g made other x known.0 inputs nodes) (base_agree n k f g made other y known.1 inputs nodes)
node_agree n k f g made other (And x y) known inputs nodes =
    ap₂ ◌&&◌ (base_agree n k f g made other x known.0 inputs nodes) (base_agree n k f g made other y known.1 inputs nodes)

sig_agree : (n k : ℕ) (f g : ℕ → Bool) (made other : List Bool) (sig : Sig) → IsKnownSig n k sig → ((i : ℕ) → i < n → f i ≡ g i)
    → ((j : ℕ) → j < k → bit_of made j ≡ bit_of other j) → sig_bit f made sig ≡ sig_bit g other sig
sig_agree n k f g made other (Const bit) known inputs nodes = refl
sig_agree n k f g made other (Is base) known inputs nodes = base_agree n k f g made other base known inputs nodes

-- ---- the nodes of a settled graph

length-made_by : (assignment : ℕ → Bool) (made : List Bool) (nodes : List Node) → length (made_by assignment made nodes) ≡ length made + length nodes
length-made_by assignment made [] = omega arith
length-made_by assignment made (x ∷ xs) =
    length-made_by assignment (made ++ node_bit assignment made x ∷ []) xs ∙ omega (arith, length-append made (node_bit assignment made x ∷ []))

pub length-values : (s : SettledView) (input : List Bool) → length (values_on s input) ≡ length s.nodes
length-values s input = length-made_by (bit_of input) [] s.nodes ∙ omega arith

-- the values of one more node
pub values_more : (s : SettledView) (k : ℕ) (input : List Bool) → k < length s.nodes
    → first_values s (k + 1) input ≡ first_values s k input ++ node_function s k input ∷ []
values_more s k input low = take_more (values_on s input) k false (omega (arith, low, length-values s input))

-- the function of the next node, where the bits and the nodes before it have numbers
pub node_is : (q : Comparison) (s : SettledView) (table : List Triple) (bits nodes : List ℕ) (k : ℕ) (node : Node) → inputs_in q ≡ s.inputs
    → IsSettled s → slice_get s.nodes k ≡ Some node → IsKnownNode s.inputs k node → AreNumbersOf q table bits (λ b. b)
    → AreNumbersOf q table nodes (λ b. first_values s k (input_bits q b))
    → AreSame (node_function_of table bits nodes node) (λ a. node_function s k (input_bits q (bits_in q a)))
node_is q s table bits nodes k node inputs settled at known of_bits of_nodes = λ a.
    let all : List Bool = bits_in q a in
    let input : List Bool = input_bits q all in
    ap₂ (λ (f : List Bool) (m : List Bool). node_bit (bit_of f) m node) (of_bits.same a) (of_nodes.same a)
    ∙ node_agree s.inputs k (bit_of all) (bit_of input) (first_values s k input) (values_on s input) node known
    (λ i low. sym (get_or-take (inputs_in q) all i false (omega (arith, low, inputs))))
    (λ j low. get_or-take k (values_on s input) j false low)
    ∙ sym (value_of_node s input k node settled.nodes at)

-- the function of an output
pub sig_is : (q : Comparison) (s : SettledView) (table : List Triple) (bits nodes : List ℕ) (sig : Sig) → inputs_in q ≡ s.inputs
    → IsKnownSig s.inputs (length s.nodes) sig → AreNumbersOf q table bits (λ b. b)
    → AreNumbersOf q table nodes (λ b. first_values s (length s.nodes) (input_bits q b))
    → AreSame (sig_function_of table bits nodes sig) (λ a. settled_value s (input_bits q (bits_in q a)) sig)
sig_is q s table bits nodes sig inputs known of_bits of_nodes = λ a.
    let all : List Bool = bits_in q a in
    let input : List Bool = input_bits q all in
    let k : ℕ = length s.nodes in
    ap₂ (λ (f : List Bool) (m : List Bool). sig_bit (bit_of f) m sig) (of_bits.same a) (of_nodes.same a)
    ∙ sig_agree s.inputs k (bit_of all) (bit_of input) (first_values s k input) (values_on s input) sig known
    (λ i low. sym (get_or-take (inputs_in q) all i false (omega (arith, low, inputs))))
    (λ j low. get_or-take k (values_on s input) j false low)

-- ---- known where there are more

base_more : (n m k l : ℕ) (base : Base) → n ≤ m → k ≤ l → IsKnownBase n k base → IsKnownBase m l base
base_more n m k l (bases.Input i) inputs nodes known = omega (arith, inputs, known)
base_more n m k l (bases.Node j) inputs nodes known = omega (arith, nodes, known)

pub node_more : (n m k l : ℕ) (node : Node) → n ≤ m → k ≤ l → IsKnownNode n k node → IsKnownNode m l node
node_more n m k l (Not x) inputs nodes known = base_more n m k l x inputs nodes known
node_more n m k l (Xor x y) inputs nodes known =
    (base_more n m k l x inputs nodes known.0, base_more n m k l y inputs nodes known.1, known.2)
node_more n m k l (And x y) inputs nodes known =
    (base_more n m k l x inputs nodes known.0, base_more n m k l y inputs nodes known.1, known.2)

pub sig_more : (n m k l : ℕ) (sig : Sig) → n ≤ m → k ≤ l → IsKnownSig n k sig → IsKnownSig m l sig
sig_more n m k l (Const bit) inputs nodes known = tt
sig_more n m k l (Is base) inputs nodes known = base_more n m k l base inputs nodes known

-- the number of a base or a constant
pub base_stands : (table : List Triple) (bits nodes : List ℕ) (base : Base) (n : ℕ) → n ≡ base_number bits nodes base → AreKnown table bits
    → AreKnown table nodes → IsKnownBase (length bits) (length nodes) base → StandsFor table n (sig_function_of table bits nodes (Is base))
base_stands table bits nodes base n is known_bits known_nodes known =
    subst (λ (m : ℕ). StandsFor table m (sig_function_of table bits nodes (Is base))) (sym is)
    (record { known = base_known table bits nodes base known_bits known_nodes known; same = λ a. base_is table bits nodes base a known })

-- ---- answers

pub not_made : (bits nodes : List ℕ) (x : Base) (node : Node) (f always : ℕ) (old new : DiagramView) (r : Result ℕ DdFault) → node ≡ Not x
    → f ≡ base_number bits nodes x → IsKnownNode (length bits) (length nodes) node → StandsFor old.nodes always (λ a. true)
    → Computes (exclusive_or (function_of old.nodes f) (function_of old.nodes always)) old new r
    → Computes (node_function_of old.nodes bits nodes node) old new r
not_made bits nodes x node f always old new r is number known stands made =
    subst (λ (z : Node). Computes (node_function_of old.nodes bits nodes z) old new r) (sym is)
    (computes_same (node_function_of old.nodes bits nodes (Not x)) (exclusive_or (function_of old.nodes f) (function_of old.nodes always)) old new r
    (subst (λ (n : ℕ). AreSame (λ a. xor (function_of old.nodes n a) (function_of old.nodes always a)) (node_function_of old.nodes bits nodes (Not x)))
    (sym number) (not_is old.nodes bits nodes x always (subst (IsKnownNode (length bits) (length nodes)) is known) stands)) made)

-- a node of two operands, whose bit is made of theirs
pub two_made : (op : Bool → Bool → Bool) (bits nodes : List ℕ) (x y : Base) (own node : Node) (f g : ℕ) (old new : DiagramView) (r : Result ℕ DdFault)
    → node ≡ own → f ≡ base_number bits nodes x → g ≡ base_number bits nodes y
    → AreSame (λ a. op (function_of old.nodes (base_number bits nodes x) a) (function_of old.nodes (base_number bits nodes y) a))
    (node_function_of old.nodes bits nodes own)
    → Computes (λ a. op (function_of old.nodes f a) (function_of old.nodes g a)) old new r → Computes (node_function_of old.nodes bits nodes node) old new r
two_made op bits nodes x y own node f g old new r is first second same made =
    let sought : Function = node_function_of old.nodes bits nodes own in
    subst (λ (z : Node). Computes (node_function_of old.nodes bits nodes z) old new r) (sym is)
    (computes_same sought (λ a. op (function_of old.nodes f a) (function_of old.nodes g a)) old new r
    (subst (λ (n : ℕ). AreSame (λ a. op (function_of old.nodes n a) (function_of old.nodes g a)) sought) (sym first)
    (subst (λ (n : ℕ). AreSame (λ a. op (function_of old.nodes (base_number bits nodes x) a) (function_of old.nodes n a)) sought) (sym second) same)) made)
