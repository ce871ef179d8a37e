-- The steps of a comparison: one more bit, one more node, one more output, one more gate.
use Rattle.std.proofs.Common.{◌≡◌, ℕ, ◌+◌, ◌<◌, ◌≤◌, Bool, false, List, [], ◌∷◌, ◌++◌, length, map, take, drop, replicate, get_or, slice_get, Some}
use Rattle.std.proofs.Common.{refl, sym, ap, ap₂, ◌∙◌, subst, arith, Result, append_assoc, length-append}
use Rattle.std.specs.Bool.{xor}
use Rattle.std.specs.List.{AllByRecursion}
use Rattle.std.proofs.lemmas.Simd.{get_or-zip2, length-zip2}
use Rattle.std.proofs.lemmas.List.{get_or-append-add, get_or_append_left, length-drop, length-map, length-replicate, length-take-le}
use Rattle.std.proofs.lemmas.List.{map-append, take_all, take_more}
use Rattle.list_facts.specs.Bits.{bit_of, zeros}
use Rattle.list_facts.proofs.AllLemmas.{AllByRecursion-at, AllByRecursion-right}
use Rattle.dependency_graph.specs.declared.node.Node.{Node}
use Rattle.dependency_graph.specs.declared.node.Sig.{Sig}
use Rattle.dependency_graph.specs.Graphs.{IsKnownNode, IsKnownSig}
use Rattle.decision_diagram.specs.Diagrams.{DiagramView, Triple, function_of}
use Rattle.decision_diagram.specs.Functions.{AreSame, Assignment, Function, exclusive_or, variable_at}
use Rattle.decision_diagram.specs.declared.node.DdFault.{DdFault}
use Rattle.decision_diagram.specs.declared.node.DdFault.TheVariants as dd
use Rattle.decision_diagram.specs.Growth.{Computes, KeepsNodes, MayRefuse, StandsFor}
use Rattle.decision_diagram.proofs.GrowthLemmas.{StandsFor-same}
use Rattle.claim_check.specs.Measures.{node_function}
use Rattle.claim_check.specs.Settled.{SettledView, settled_outputs, settled_value}
use Rattle.claim_check.specs.Variables.{AreVariables}
use Rattle.claim_check.proofs.NodeLemmas.{known_at, values_on}
use Rattle.claim_check.proofs.VariableLemmas as places
use Rattle.mct_circuit.specs.declared.gate.Control.{Control}
use Rattle.mct_circuit.specs.declared.gate.Op.{Op}
use Rattle.mct_circuit.specs.declared.gate.Op.TheVariants.{Flip}
use Rattle.mct_circuit.specs.Gates.{AreGatesOn, GateView, IsGateOn, after_gate, line_map, targets_of}
use Rattle.mct_circuit.proofs.ReversalLemmas.{length-line_map}
use Rattle.circuit_plans.specs.declared.roles.Placing.{Placing}
use Rattle.circuit_plans.specs.declared.roles.Placing.TheVariants.{InPlace}
use Rattle.circuit_plans.specs.Plans.{added}
use Rattle.circuit_verify.specs.Comparisons.{Comparison, IsAdded, borrowed_bits, input_bits, inputs_in, lines_for, order_in, output_bits, output_lines}
use Rattle.circuit_verify.specs.Comparisons.{output_variables, put_by, start_on, variables_in, wanted_on, wanted_ports, work_lines}
use Rattle.circuit_verify.specs.LineFunctions.{Assumed, Line, Step, Wanted}
use Rattle.circuit_verify.specs.Verdicts.{FillsInputs, HasEnoughLines, IsComparable, verify_fault}
use Rattle.circuit_verify.specs.declared.fault.VerifyFault.TheVariants as faults
use Rattle.circuit_verify.specs.Compared.{ComparedView, IsReady, comparison}
use Rattle.circuit_verify.specs.inside.Numbers.{AreEnds, AreLaid, AreNumbersOf, GrowsBy, HoldsNodesOf, bits_in, first_ports, first_values}
use Rattle.circuit_verify.specs.inside.Numbers.{held_numbers, holder_function, line_function_of, node_function_of, sig_function_of}
use Rattle.circuit_verify.proofs.AskLemmas.{IsAnswered, IsHeldBit, answered, held_bit_of}
use Rattle.circuit_verify.proofs.HeldLemmas.{held_are, length-held_by, length-put_by, lines_added, put_added}
use Rattle.circuit_verify.proofs.LineLemmas.{line_map_next}
use Rattle.circuit_verify.proofs.NumberLemmas.{bit-at, length-bits_in, length-numbers, numbers-append, numbers-drop, numbers-grown}
use Rattle.circuit_verify.proofs.NumberLemmas.{numbers-push, numbers-same, numbers-take, numbers-zeros}
use Rattle.circuit_verify.proofs.OrderLemmas.{ordered_in}
use Rattle.circuit_verify.proofs.ValueLemmas.{length-values, node_is, node_more, sig_is, sig_more, values_more}
use Rattle.circuit_verify.proofs.VerdictLemmas.{length-start_on}

-- ---- bits

-- the variable at a place is one of the diagram's
pub variable_inside : (q : Comparison) (variables : List ℕ) (i : ℕ) → AreVariables (variables_in q) (order_in q) variables → i < variables_in q
    → get_or variables i 0 < variables_in q
variable_inside q variables i are low = (places.variable_at (ordered_in q) (get_or variables i 0) i (are.at i low)).0

-- and has the bit of its place
pub variable_is : (q : Comparison) (variables : List ℕ) (i : ℕ) → AreVariables (variables_in q) (order_in q) variables → i < variables_in q
    → AreSame (variable_at (get_or variables i 0)) (λ a. bit_of (bits_in q a) i)
variable_is q variables i are low = λ a.
    let at = places.variable_at (ordered_in q) (get_or variables i 0) i (are.at i low) in
    sym (places.bit-bits_at (ordered_in q) a (get_or variables i 0) at.0) ∙ ap (bit_of (bits_in q a)) at.1

-- which is held
pub variable_held : (q : Comparison) (variables : List ℕ) (i : ℕ) (held : IsHeldBit q i) → AreVariables (variables_in q) (order_in q) variables
    → i < variables_in q → AreSame (variable_at (get_or variables i 0)) (holder_function q held.holder)
variable_held q variables i held are low = λ a. variable_is q variables i are low a ∙ held.same a

pub bits_more : (q : Comparison) (nodes : List Triple) (numbers : List ℕ) (n i : ℕ) → i < variables_in q
    → AreNumbersOf q nodes numbers (λ bits. take i bits) → StandsFor nodes n (λ a. bit_of (bits_in q a) i)
    → AreNumbersOf q nodes (numbers ++ n ∷ []) (λ bits. take (i + 1) bits)
bits_more q nodes numbers n i low are stands =
    numbers-same q nodes (numbers ++ n ∷ []) (λ bits. take i bits ++ bit_of bits i ∷ []) (λ bits. take (i + 1) bits)
    (λ bits size. sym (take_more bits i false (omega (arith, low, size))))
    (numbers-push q nodes numbers n (λ bits. take i bits) (λ bits. bit_of bits i) are stands)

pub all_bits : (q : Comparison) (nodes : List Triple) (numbers : List ℕ) (i : ℕ) → variables_in q ≤ i
    → AreNumbersOf q nodes numbers (λ bits. take i bits) → AreNumbersOf q nodes numbers (λ bits. bits)
all_bits q nodes numbers i most are =
    numbers-same q nodes numbers (λ bits. take i bits) (λ bits. bits) (λ bits size. take_all i bits (omega (arith, most, size))) are

-- as many numbers as variables
pub many_bits : (q : Comparison) (nodes : List Triple) (numbers : List ℕ) → AreNumbersOf q nodes numbers (λ bits. bits)
    → length numbers ≡ variables_in q
many_bits q nodes numbers are = length-numbers q nodes numbers (λ bits. bits) (λ i. false) are ∙ length-bits_in q (λ i. false)

-- ---- nodes

pub many_nodes : (q : Comparison) (s : SettledView) (nodes : List Triple) (numbers : List ℕ) (k : ℕ) → k ≤ length s.nodes
    → AreNumbersOf q nodes numbers (λ bits. first_values s k (input_bits q bits)) → length numbers ≡ k
many_nodes q s nodes numbers k low are =
    let input : List Bool = input_bits q (bits_in q (λ i. false)) in
    length-numbers q nodes numbers (λ bits. first_values s k (input_bits q bits)) (λ i. false) are
    ∙ length-take-le k (values_on s input) (omega (arith, low, length-values s input))

-- the program's graph and that of the premise
pub program_graph : (v : ComparedView) → IsReady v → HoldsNodesOf (comparison v) v.graph
program_graph v ready = record {
  inputs = ready.inputs;
  settled = ready.settled;
  holder = Step;
  held = λ k low. low;
  same = λ k bits. refl;
}

pub premise_graph : (v : ComparedView) → IsReady v → HoldsNodesOf (comparison v) v.premise
premise_graph v ready = record {
  inputs = ready.inputs ∙ sym ready.assumed_inputs;
  settled = ready.settled_premise;
  holder = Assumed;
  held = λ k low. low;
  same = λ k bits. refl;
}

-- the next node is made of what has numbers
-- a node of a graph, behind whose earlier ones all have numbers
pub record IsReached (q : Comparison) (s : SettledView) (nodes : List Triple) (bits numbers : List ℕ) (k : ℕ) (node : Node) : Type 0 where
  pub low : k < length s.nodes
  pub at : slice_get s.nodes k ≡ Some node
  pub bits_are : AreNumbersOf q nodes bits (λ b. b)
  pub nodes_are : AreNumbersOf q nodes numbers (λ b. first_values s k (input_bits q b))

pub node_placed : (q : Comparison) (s : SettledView) → HoldsNodesOf q s → (nodes : List Triple) (bits numbers : List ℕ) (k : ℕ) (node : Node)
    → IsReached q s nodes bits numbers k node → IsKnownNode (length bits) (length numbers) node
node_placed q s holds nodes bits numbers k node is =
    let low = is.low in
    node_more s.inputs (length bits) k (length numbers) node
    (omega (arith, many_bits q nodes bits is.bits_are, holds.inputs))
    (omega (arith, many_nodes q s nodes numbers k (omega (arith, low)) is.nodes_are))
    (known_at s.inputs k s.nodes node holds.settled.nodes is.at)

pub node_value : (q : Comparison) (s : SettledView) → HoldsNodesOf q s → (nodes : List Triple) (bits numbers : List ℕ) (k : ℕ) (node : Node)
    → IsReached q s nodes bits numbers k node
    → AreSame (node_function_of nodes bits numbers node) (λ a. node_function s k (input_bits q (bits_in q a)))
node_value q s holds nodes bits numbers k node is =
    node_is q s nodes bits numbers k node holds.inputs holds.settled is.at
    (known_at s.inputs k s.nodes node holds.settled.nodes is.at) is.bits_are is.nodes_are

pub node_held : (q : Comparison) (s : SettledView) (holds : HoldsNodesOf q s) (nodes : List Triple) (bits numbers : List ℕ) (k : ℕ) (node : Node)
    → IsReached q s nodes bits numbers k node → AreSame (node_function_of nodes bits numbers node) (holder_function q (holds.holder k))
node_held q s holds nodes bits numbers k node is = λ a.
    node_value q s holds nodes bits numbers k node is a ∙ sym (holds.same k (bits_in q a))

pub nodes_more : (q : Comparison) (s : SettledView) (nodes : List Triple) (numbers : List ℕ) (n k : ℕ) → k < length s.nodes
    → AreNumbersOf q nodes numbers (λ b. first_values s k (input_bits q b))
    → StandsFor nodes n (λ a. node_function s k (input_bits q (bits_in q a)))
    → AreNumbersOf q nodes (numbers ++ n ∷ []) (λ b. first_values s (k + 1) (input_bits q b))
nodes_more q s nodes numbers n k low are stands =
    numbers-same q nodes (numbers ++ n ∷ [])
    (λ b. first_values s k (input_bits q b) ++ node_function s k (input_bits q b) ∷ [])
    (λ b. first_values s (k + 1) (input_bits q b))
    (λ b size. sym (values_more s k (input_bits q b) low))
    (numbers-push q nodes numbers n (λ b. first_values s k (input_bits q b)) (λ b. node_function s k (input_bits q b)) are stands)

-- ---- outputs

pub sig_placed : (q : Comparison) (s : SettledView) → HoldsNodesOf q s → (nodes : List Triple) (bits numbers : List ℕ) (i : ℕ) (d : Sig)
    → i < length s.outputs → AreNumbersOf q nodes bits (λ b. b)
    → AreNumbersOf q nodes numbers (λ b. first_values s (length s.nodes) (input_bits q b))
    → IsKnownSig (length bits) (length numbers) (get_or s.outputs i d)
sig_placed q s holds nodes bits numbers i d low of_bits of_nodes =
    sig_more s.inputs (length bits) (length s.nodes) (length numbers) (get_or s.outputs i d)
    (omega (arith, many_bits q nodes bits of_bits, holds.inputs))
    (omega (arith, many_nodes q s nodes numbers (length s.nodes) (omega arith) of_nodes))
    (AllByRecursion-at (IsKnownSig s.inputs (length s.nodes)) s.outputs i d holds.settled.outputs low)

pub outputs_more : (q : Comparison) (s : SettledView) → HoldsNodesOf q s → (nodes : List Triple) (bits numbers outputs : List ℕ) (n i : ℕ) (d : Sig)
    → i < length s.outputs → AreNumbersOf q nodes bits (λ b. b)
    → AreNumbersOf q nodes numbers (λ b. first_values s (length s.nodes) (input_bits q b))
    → StandsFor nodes n (sig_function_of nodes bits numbers (get_or s.outputs i d))
    → AreNumbersOf q nodes outputs (λ b. map (settled_value s (input_bits q b)) (take i s.outputs))
    → AreNumbersOf q nodes (outputs ++ n ∷ []) (λ b. map (settled_value s (input_bits q b)) (take (i + 1) s.outputs))
outputs_more q s holds nodes bits numbers outputs n i d low of_bits of_nodes stands are =
    let sig : Sig = get_or s.outputs i d in
    let known = AllByRecursion-at (IsKnownSig s.inputs (length s.nodes)) s.outputs i d holds.settled.outputs low in
    numbers-same q nodes (outputs ++ n ∷ [])
    (λ b. map (settled_value s (input_bits q b)) (take i s.outputs) ++ settled_value s (input_bits q b) sig ∷ [])
    (λ b. map (settled_value s (input_bits q b)) (take (i + 1) s.outputs))
    (λ b size. sym (ap (map (settled_value s (input_bits q b))) (take_more s.outputs i d low)
    ∙ map-append (settled_value s (input_bits q b)) (take i s.outputs) (sig ∷ [])))
    (numbers-push q nodes outputs n (λ b. map (settled_value s (input_bits q b)) (take i s.outputs))
    (λ b. settled_value s (input_bits q b) sig) are
    (StandsFor-same nodes n (sig_function_of nodes bits numbers sig) (λ a. settled_value s (input_bits q (bits_in q a)) sig)
    (sig_is q s nodes bits numbers sig holds.inputs known of_bits of_nodes) stands))

pub all_outputs : (q : Comparison) (s : SettledView) (nodes : List Triple) (outputs : List ℕ) (i : ℕ) → length s.outputs ≤ i
    → AreNumbersOf q nodes outputs (λ b. map (settled_value s (input_bits q b)) (take i s.outputs))
    → AreNumbersOf q nodes outputs (λ b. settled_outputs s (input_bits q b))
all_outputs q s nodes outputs i most are =
    numbers-same q nodes outputs (λ b. map (settled_value s (input_bits q b)) (take i s.outputs))
    (λ b. settled_outputs s (input_bits q b))
    (λ b size. ap (map (settled_value s (input_bits q b))) (take_all i s.outputs most)) are

-- there are as many numbers of outputs as outputs
pub many_outputs : (q : Comparison) (s : SettledView) (nodes : List Triple) (outputs : List ℕ)
    → AreNumbersOf q nodes outputs (λ b. settled_outputs s (input_bits q b)) → length outputs ≡ length s.outputs
many_outputs q s nodes outputs are =
    length-numbers q nodes outputs (λ b. settled_outputs s (input_bits q b)) (λ i. false) are
    ∙ length-map s.outputs (settled_value s (input_bits q (bits_in q (λ i. false))))

-- ---- lines

-- the first numbers are those of the inputs
pub input_numbers : (q : Comparison) (nodes : List Triple) (bits front : List ℕ) (inputs : ℕ) → inputs ≡ inputs_in q → front ≡ take inputs bits
    → AreNumbersOf q nodes bits (λ b. b) → AreNumbersOf q nodes front (input_bits q)
input_numbers q nodes bits front inputs is_inputs is are =
    subst (λ (ns : List ℕ). AreNumbersOf q nodes ns (input_bits q)) (sym (is ∙ ap (λ (i : ℕ). take i bits) is_inputs))
    (numbers-take q nodes (inputs_in q) bits (λ b. b) are)

-- input lines and output lines, work lines and borrowed bits
pub lines_laid : (q : Comparison) (nodes : List Triple) (bits ports lines : List ℕ) (inputs variables work never : ℕ)
    → inputs ≡ inputs_in q → variables ≡ output_variables q.placing (output_lines q) → work ≡ work_lines q
    → lines ≡ ports ++ (replicate work never ++ drop variables (drop inputs bits)) → AreNumbersOf q nodes bits (λ b. b)
    → StandsFor nodes never (λ a. false) → AreLaid q nodes ports lines
lines_laid q nodes bits ports lines inputs variables work never is_inputs is_variables is_work laid of_bits stands = record {
  are = λ value of_ports.
      let n : ℕ = inputs_in q in
      let v : ℕ = output_variables q.placing (output_lines q) in
      let w : ℕ = work_lines q in
      let rest : List ℕ = drop v (drop n bits) in
      let whole : lines ≡ ports ++ (replicate w never ++ rest) =
      laid ∙ ap (λ (k : ℕ). ports ++ (replicate k never ++ drop variables (drop inputs bits))) is_work
      ∙ ap₂ (λ (i k : ℕ). ports ++ (replicate w never ++ drop k (drop i bits))) is_inputs is_variables in
      let borrowed = numbers-drop q nodes v (drop n bits) (λ b. drop n b) (numbers-drop q nodes n bits (λ b. b) of_bits) in
      let idle = numbers-append q nodes (replicate w never) rest (λ b. zeros w) (λ b. drop v (drop n b)) (numbers-zeros q nodes never w stands) borrowed in
      subst (λ (ns : List ℕ). AreNumbersOf q nodes ns (λ b. value b ++ (zeros w ++ drop v (drop n b)))) (sym whole)
      (numbers-append q nodes ports (replicate w never ++ rest) value (λ b. zeros w ++ drop v (drop n b)) of_ports idle);
}

-- the input lines and the output lines before the gates come first
pub laid_first : (q : Comparison) (nodes : List Triple) (ports lines : List ℕ) → AreLaid q nodes ports lines → AreNumbersOf q nodes ports (first_ports q)
    → AreNumbersOf q nodes lines (start_on q)
laid_first q nodes ports lines laid are =
    numbers-same q nodes lines (λ b. first_ports q b ++ (zeros (work_lines q) ++ borrowed_bits q b)) (start_on q)
    (λ b size. append_assoc (input_bits q b) (output_bits q b) (zeros (work_lines q) ++ borrowed_bits q b)) (laid.are (first_ports q) are)

-- a number for each line
pub many_lines : (q : Comparison) (nodes : List Triple) (lines : List ℕ) → HasEnoughLines q → AreNumbersOf q nodes lines (start_on q)
    → length lines ≡ q.circuit.lines
many_lines q nodes lines enough are =
    length-numbers q nodes lines (start_on q) (λ i. false) are
    ∙ length-start_on q (bits_in q (λ i. false)) enough (length-bits_in q (λ i. false))

-- ---- gates

pub gate_at : (xs gates : List GateView) (i : ℕ) (gate : GateView) → xs ≡ gates → gate ≡ get_or xs i gate → get_or gates i gate ≡ gate
gate_at xs gates i gate same is = ap (λ (gs : List GateView). get_or gs i gate) (sym same) ∙ sym is

pub gate_placed : (n : ℕ) (gates : List GateView) (i : ℕ) (gate : GateView) → AreGatesOn n gates → i < length gates → get_or gates i gate ≡ gate
    → IsGateOn n gate
gate_placed n gates i gate placed low at = subst (IsGateOn n) at (AllByRecursion-at (IsGateOn n) gates i gate placed low)

pub target_inside : (n : ℕ) (gate : GateView) (target : ℕ) → IsGateOn n gate → gate.op ≡ Flip target → target < n
target_inside n gate target on is =
    let all = AllByRecursion-right (λ line. line < n) (map (λ (control : Control). control.line) gate.controls) (targets_of gate.op) on.in_range in
    (subst (λ (op : Op). AllByRecursion (λ line. line < n) (targets_of op)) is all).0

-- the function of the line that a gate flips is held behind it
pub line_held : (q : Comparison) (nodes : List Triple) (lines : List ℕ) (k target : ℕ) (gate : GateView) → k < length q.circuit.gates
    → get_or q.circuit.gates k gate ≡ gate → AreNumbersOf q nodes lines (λ b. line_map (take k q.circuit.gates) (start_on q b))
    → AreSame (line_function_of nodes lines gate target) (holder_function q (Line (k + 1) target))
line_held q nodes lines k target gate low at are = λ a.
    ap (λ (z : List Bool). bit_of (after_gate gate z) target) (are.same a)
    ∙ ap (λ (z : List Bool). bit_of z target) (sym (line_map_next q.circuit.gates k gate (start_on q (bits_in q a)) low at))

pub all_gates : (q : Comparison) (nodes : List Triple) (lines : List ℕ) (k : ℕ) → length q.circuit.gates ≤ k
    → AreNumbersOf q nodes lines (λ b. line_map (take k q.circuit.gates) (start_on q b))
    → AreNumbersOf q nodes lines (λ b. line_map q.circuit.gates (start_on q b))
all_gates q nodes lines k most are =
    numbers-same q nodes lines (λ b. line_map (take k q.circuit.gates) (start_on q b)) (λ b. line_map q.circuit.gates (start_on q b))
    (λ b size. ap (λ (gs : List GateView). line_map gs (start_on q b)) (take_all k q.circuit.gates most)) are

-- ---- what is asked

pub bit_answered : (q : Comparison) (variables : List ℕ) (i : ℕ) (first old new : DiagramView) (r : Result ℕ DdFault) → IsComparable q
    → AreVariables (variables_in q) (order_in q) variables → i < variables_in q → GrowsBy q first old
    → Computes (variable_at (get_or variables i 0)) old new r → IsAnswered q (variable_at (get_or variables i 0)) first new
bit_answered q variables i first old new r comparable are low before made =
    let held = held_bit_of q comparable.lines i low in
    answered q held.holder (variable_at (get_or variables i 0)) first old new r comparable held.is (variable_held q variables i held are low) before made

pub node_answered : (q : Comparison) (s : SettledView) → IsComparable q → (holds : HoldsNodesOf q s) (bits numbers : List ℕ) (k : ℕ) (node : Node)
    (first old new : DiagramView) (r : Result ℕ DdFault) → IsReached q s old.nodes bits numbers k node → GrowsBy q first old
    → Computes (node_function_of old.nodes bits numbers node) old new r → IsAnswered q (node_function_of old.nodes bits numbers node) first new
node_answered q s comparable holds bits numbers k node first old new r is before made =
    answered q (holds.holder k) (node_function_of old.nodes bits numbers node) first old new r comparable (holds.held k is.low)
    (node_held q s holds old.nodes bits numbers k node is) before made

pub gate_answered : (v : ComparedView) → IsReady v → (lines : List ℕ) (k target : ℕ) (gate : GateView) (first old new : DiagramView)
    (r : Result ℕ DdFault) → k < length v.circuit.gates → get_or v.circuit.gates k gate ≡ gate → gate.op ≡ Flip target
    → AreNumbersOf (comparison v) old.nodes lines (λ b. line_map (take k v.circuit.gates) (start_on (comparison v) b)) → GrowsBy (comparison v) first old
    → Computes (line_function_of old.nodes lines gate target) old new r
    → IsAnswered (comparison v) (line_function_of old.nodes lines gate target) first new
gate_answered v ready lines k target gate first old new r low at flips are before made =
    answered (comparison v) (Line (k + 1) target) (line_function_of old.nodes lines gate target) first old new r ready.comparable
    (omega (arith, low), target_inside v.circuit.lines gate target (gate_placed v.circuit.lines v.circuit.gates k gate ready.gates low at) flips)
    (line_held (comparison v) old.nodes lines k target gate low at are) before made

-- ---- the ends

-- there are as many numbers of what the output lines hold as output lines
pub length-output_bits : (q : Comparison) (bits : List Bool) → length bits ≡ variables_in q → length (output_bits q bits) ≡ output_lines q
length-output_bits q bits size =
    length-held_by q.placing (output_lines q) q.borrow (drop (inputs_in q) bits) (length-drop (inputs_in q) bits ∙ omega (arith, size))

pub many_held : (q : Comparison) (nodes : List Triple) (held : List ℕ) → AreNumbersOf q nodes held (output_bits q) → length held ≡ output_lines q
many_held q nodes held are =
    length-numbers q nodes held (output_bits q) (λ i. false) are ∙ length-output_bits q (bits_in q (λ i. false)) (length-bits_in q (λ i. false))

-- the numbers behind those of the inputs are enough for the output lines that have variables
pub held_inside : (v : ComparedView) (nodes : List Triple) (bits behind : List ℕ) (placing : Placing) (lines inputs : ℕ) → placing ≡ v.placing
    → lines ≡ output_lines (comparison v) → inputs ≡ inputs_in (comparison v) → behind ≡ drop inputs bits
    → AreNumbersOf (comparison v) nodes bits (λ b. b) → output_variables placing lines ≤ length behind
held_inside v nodes bits behind placing lines inputs is_placing is_lines is_inputs is_behind are =
    omega (
      arith,
      ap₂ output_variables is_placing is_lines,
      is_inputs,
      ap (λ (ns : List ℕ). length ns) is_behind,
      length-drop inputs bits,
      many_bits (comparison v) nodes bits are,
    )

-- and give what they hold
pub held_found : (v : ComparedView) (nodes : List Triple) (bits behind held : List ℕ) (placing : Placing) (lines inputs never : ℕ)
    → placing ≡ v.placing → lines ≡ output_lines (comparison v) → inputs ≡ inputs_in (comparison v) → behind ≡ drop inputs bits
    → held ≡ held_numbers placing lines never behind → AreNumbersOf (comparison v) nodes bits (λ b. b) → StandsFor nodes never (λ a. false)
    → AreNumbersOf (comparison v) nodes held (output_bits (comparison v))
held_found v nodes bits behind held placing lines inputs never is_placing is_lines is_inputs is_behind is are stands =
    let q = comparison v in
    let o : ℕ = output_lines q in
    let n : ℕ = inputs_in q in
    let whole : held ≡ held_numbers v.placing o never (drop n bits) =
    is ∙ ap₂ (λ (p : Placing) (k : ℕ). held_numbers p k never behind) is_placing is_lines
    ∙ ap (λ (ns : List ℕ). held_numbers v.placing o never ns) (is_behind ∙ ap (λ (i : ℕ). drop i bits) is_inputs) in
    subst (λ (ns : List ℕ). AreNumbersOf q nodes ns (output_bits q)) (sym whole) (held_are q nodes v.placing o never n bits are stands)

-- ---- what the output lines should hold, where outputs are added

abbrev pub wanted_bits : (v : ComparedView) → List Bool → List Bool
wanted_bits v bits = added (output_bits (comparison v) bits) (settled_outputs v.graph (input_bits (comparison v) bits))

-- there is an output line for each output
pub length-held : (v : ComparedView) (bits : List Bool) → IsAdded v.placing → length bits ≡ variables_in (comparison v)
    → length (output_bits (comparison v) bits) ≡ length v.graph.outputs
length-held v bits is size =
    length-output_bits (comparison v) bits size ∙ lines_added v.placing (inputs_in (comparison v)) (length v.graph.outputs) is

pub length-wanted_bits : (v : ComparedView) (bits : List Bool) → IsAdded v.placing → length bits ≡ variables_in (comparison v)
    → length (wanted_bits v bits) ≡ length v.graph.outputs
length-wanted_bits v bits is size =
    let q = comparison v in
    let held : List Bool = output_bits q bits in
    let out : List Bool = settled_outputs v.graph (input_bits q bits) in
    let wide : length held ≡ length v.graph.outputs = length-held v bits is size in
    let many : length out ≡ length v.graph.outputs = length-map v.graph.outputs (settled_value v.graph (input_bits q bits)) in
    length-zip2 xor held out (wide ∙ sym many) ∙ wide

-- the exclusive or of what a line holds and its output is what it should hold
pub record AreOutputs (v : ComparedView) (nodes : List Triple) (held outputs : List ℕ) : Type 0 where
  pub held_are : AreNumbersOf (comparison v) nodes held (output_bits (comparison v))
  pub outputs_are : AreNumbersOf (comparison v) nodes outputs (λ b. settled_outputs v.graph (input_bits (comparison v) b))

pub outputs_grown : (v : ComparedView) (old new : DiagramView) (held outputs : List ℕ) → KeepsNodes old new → AreOutputs v old.nodes held outputs
    → AreOutputs v new.nodes held outputs
outputs_grown v old new held outputs kept are = record {
  held_are = numbers-grown (comparison v) old new kept held (output_bits (comparison v)) are.held_are;
  outputs_are =
      numbers-grown (comparison v) old new kept outputs (λ b. settled_outputs v.graph (input_bits (comparison v) b)) are.outputs_are;
}

-- there is a number of an output line for each output
pub many_added : (v : ComparedView) (nodes : List Triple) (held : List ℕ) → IsAdded v.placing
    → AreNumbersOf (comparison v) nodes held (output_bits (comparison v)) → length held ≡ length v.graph.outputs
many_added v nodes held is are =
    many_held (comparison v) nodes held are ∙ lines_added v.placing (inputs_in (comparison v)) (length v.graph.outputs) is

pub wanted_is : (v : ComparedView) (nodes : List Triple) (held outputs : List ℕ) (k : ℕ) → IsAdded v.placing
    → k < length v.graph.outputs → AreOutputs v nodes held outputs
    → AreSame (exclusive_or (function_of nodes (get_or held k 0)) (function_of nodes (get_or outputs k 0)))
    (λ a. bit_of (wanted_bits v (bits_in (comparison v) a)) k)
wanted_is v nodes held outputs k is low are = λ a.
    let q = comparison v in
    let bits : List Bool = bits_in q a in
    let size : length bits ≡ variables_in q = length-bits_in q a in
    let now : List Bool = output_bits q bits in
    let out : List Bool = settled_outputs v.graph (input_bits q bits) in
    let wide : length now ≡ length v.graph.outputs = length-held v bits is size in
    let many : length out ≡ length v.graph.outputs = length-map v.graph.outputs (settled_value v.graph (input_bits q bits)) in
    ap₂ xor
    (bit-at nodes held k a (omega (arith, low, many_added v nodes held is are.held_are)) ∙ ap (λ (z : List Bool). bit_of z k) (are.held_are.same a))
    (bit-at nodes outputs k a (omega (arith, low, many_outputs (comparison v) v.graph nodes outputs are.outputs_are))
    ∙ ap (λ (z : List Bool). bit_of z k) (are.outputs_are.same a))
    ∙ sym (get_or-zip2 xor now out k false false false (omega (arith, low, wide)) (omega (arith, low, many)))

-- which is held by a line as it should be
pub wanted_bit : (v : ComparedView) (bits : List Bool) (k : ℕ) → IsAdded v.placing → length bits ≡ variables_in (comparison v)
    → k < length v.graph.outputs → bit_of (wanted_bits v bits) k ≡ bit_of (wanted_on (comparison v) bits) (inputs_in (comparison v) + k)
wanted_bit v bits k is size low =
    let q = comparison v in
    let n : ℕ = inputs_in q in
    let out : List Bool = wanted_bits v bits in
    let rest : List Bool = zeros (work_lines q) ++ borrowed_bits q bits in
    let front : length (take n bits) ≡ n = length-take-le n bits (omega (arith, size)) in
    let whole : wanted_on q bits ≡ take n bits ++ (out ++ rest) =
    ap (λ (z : List Bool). z ++ rest) (put_added v.placing (take n bits) (output_bits q bits) (settled_outputs v.graph (take n bits)) is)
    ∙ append_assoc (take n bits) out rest in
    sym (ap (λ (z : List Bool). bit_of z (n + k)) whole
    ∙ ap (λ (m : ℕ). bit_of (take n bits ++ (out ++ rest)) (m + k)) (sym front)
    ∙ get_or-append-add (take n bits) (out ++ rest) k false
    ∙ get_or_append_left out rest false k (omega (arith, low, length-wanted_bits v bits is size)))

pub wanted_answered : (v : ComparedView) → IsReady v → (held outputs : List ℕ) (k : ℕ) (first old new : DiagramView) (r : Result ℕ DdFault)
    → IsAdded v.placing → k < length v.graph.outputs → AreOutputs v first.nodes held outputs → GrowsBy (comparison v) first old
    → Computes (exclusive_or (function_of old.nodes (get_or held k 0)) (function_of old.nodes (get_or outputs k 0))) old new r
    → IsAnswered (comparison v) (exclusive_or (function_of old.nodes (get_or held k 0)) (function_of old.nodes (get_or outputs k 0))) first new
wanted_answered v ready held outputs k first old new r is low are before made =
    let q = comparison v in
    let there = outputs_grown v first old held outputs before.kept are in
    answered q (Wanted (inputs_in q + k))
    (exclusive_or (function_of old.nodes (get_or held k 0)) (function_of old.nodes (get_or outputs k 0))) first old new r ready.comparable
    (omega (arith, low, lines_added v.placing (inputs_in q) (length v.graph.outputs) is, ready.comparable.lines))
    (λ a. wanted_is v old.nodes held outputs k is low there a ∙ wanted_bit v (bits_in q a) k is (length-bits_in q a) low) before made

-- what is said of numbers that were read is said of those at the place
pub at_place : (P : Function → Type 0) (nodes : List Triple) (held outputs : List ℕ) (k x y : ℕ) → x ≡ get_or held k 0 → y ≡ get_or outputs k 0
    → P (exclusive_or (function_of nodes x) (function_of nodes y))
    → P (exclusive_or (function_of nodes (get_or held k 0)) (function_of nodes (get_or outputs k 0)))
at_place P nodes held outputs k x y first second said =
    subst (λ (n : ℕ). P (exclusive_or (function_of nodes (get_or held k 0)) (function_of nodes n))) second
    (subst (λ (n : ℕ). P (exclusive_or (function_of nodes n) (function_of nodes y))) first said)

-- the number of one more
pub wanted_more : (v : ComparedView) (nodes : List Triple) (numbers : List ℕ) (n k : ℕ) → IsAdded v.placing → k < length v.graph.outputs
    → AreNumbersOf (comparison v) nodes numbers (λ b. take k (wanted_bits v b))
    → StandsFor nodes n (λ a. bit_of (wanted_bits v (bits_in (comparison v) a)) k)
    → AreNumbersOf (comparison v) nodes (numbers ++ n ∷ []) (λ b. take (k + 1) (wanted_bits v b))
wanted_more v nodes numbers n k is low are stands =
    let q = comparison v in
    numbers-same q nodes (numbers ++ n ∷ []) (λ b. take k (wanted_bits v b) ++ bit_of (wanted_bits v b) k ∷ [])
    (λ b. take (k + 1) (wanted_bits v b))
    (λ b size. sym (take_more (wanted_bits v b) k false (omega (arith, low, length-wanted_bits v b is size))))
    (numbers-push q nodes numbers n (λ b. take k (wanted_bits v b)) (λ b. bit_of (wanted_bits v b) k) are stands)

pub all_wanted : (v : ComparedView) (nodes : List Triple) (numbers : List ℕ) (k : ℕ) → IsAdded v.placing → length v.graph.outputs ≤ k
    → AreNumbersOf (comparison v) nodes numbers (λ b. take k (wanted_bits v b)) → AreNumbersOf (comparison v) nodes numbers (wanted_bits v)
all_wanted v nodes numbers k is most are =
    numbers-same (comparison v) nodes numbers (λ b. take k (wanted_bits v b)) (wanted_bits v)
    (λ b size. take_all k (wanted_bits v b) (omega (arith, most, length-wanted_bits v b is size))) are

-- the input lines with the outputs that were added behind them
pub ports_added : (v : ComparedView) (nodes : List Triple) (front back all : List ℕ) → IsAdded v.placing → all ≡ front ++ back
    → AreNumbersOf (comparison v) nodes front (input_bits (comparison v)) → AreNumbersOf (comparison v) nodes back (wanted_bits v)
    → AreNumbersOf (comparison v) nodes all (wanted_ports (comparison v))
ports_added v nodes front back all is whole fronts backs =
    let q = comparison v in
    subst (λ (ns : List ℕ). AreNumbersOf q nodes ns (wanted_ports q)) (sym whole)
    (numbers-same q nodes (front ++ back) (λ b. input_bits q b ++ wanted_bits v b) (wanted_ports q)
    (λ b size. sym (put_added v.placing (input_bits q b) (output_bits q b) (settled_outputs v.graph (input_bits q b)) is))
    (numbers-append q nodes front back (input_bits q) (wanted_bits v) fronts backs))

-- and the outputs in the place of the inputs
pub ports_in_place : (v : ComparedView) (nodes : List Triple) (outputs : List ℕ) → v.placing ≡ InPlace
    → AreNumbersOf (comparison v) nodes outputs (λ b. settled_outputs v.graph (input_bits (comparison v) b))
    → AreNumbersOf (comparison v) nodes outputs (wanted_ports (comparison v))
ports_in_place v nodes outputs is are =
    let q = comparison v in
    numbers-same q nodes outputs (λ b. settled_outputs v.graph (input_bits q b)) (wanted_ports q)
    (λ b size. sym (ap (λ (p : Placing). put_by p (input_bits q b) (output_bits q b) (settled_outputs v.graph (input_bits q b))) is)) are

-- how many input lines and output lines there are
pub length-ports : (v : ComparedView) → IsReady v → (bits : List Bool) → length bits ≡ variables_in (comparison v)
    → length (wanted_ports (comparison v) bits) ≡ inputs_in (comparison v) + output_lines (comparison v)
length-ports v ready bits size =
    let q = comparison v in
    let n : ℕ = inputs_in q in
    let o : ℕ = length v.graph.outputs in
    let input : List Bool = take n bits in
    let front : length input ≡ n = length-take-le n bits (omega (arith, size)) in
    length-put_by v.placing input (output_bits q bits) (settled_outputs v.graph input) o (length-map v.graph.outputs (settled_value v.graph input))
    (length-output_bits q bits size ∙ ap (λ (m : ℕ). lines_for v.placing m o) (sym front))
    (subst (λ (m : ℕ). FillsInputs v.placing m o) (sym front) ready.comparable.outputs)
    ∙ ap (λ (m : ℕ). m + lines_for v.placing m o) front

-- a number for each line, before and behind the gates
pub length-wanted : (v : ComparedView) → IsReady v → (bits : List Bool) → length bits ≡ variables_in (comparison v)
    → length (wanted_on (comparison v) bits) ≡ v.circuit.lines
length-wanted v ready bits size =
    let q = comparison v in
    let n : ℕ = inputs_in q in
    let m : ℕ = output_variables q.placing (output_lines q) in
    let w : ℕ = work_lines q in
    let ports : List Bool = wanted_ports q bits in
    let borrowed : List Bool = borrowed_bits q bits in
    let rest : length (drop n bits) ≡ m + q.borrow = length-drop n bits ∙ omega (arith, size) in
    length-append ports (zeros w ++ borrowed)
    ∙ omega (
      arith,
      length-append (zeros w) borrowed,
      length-ports v ready bits size,
      length-replicate w false,
      length-drop m (drop n bits),
      rest,
      ready.comparable.lines,
    )

pub length-ended : (v : ComparedView) → IsReady v → (bits : List Bool) → length bits ≡ variables_in (comparison v)
    → length (line_map v.circuit.gates (start_on (comparison v) bits)) ≡ v.circuit.lines
length-ended v ready bits size =
    let start : List Bool = start_on (comparison v) bits in
    let long : length start ≡ v.circuit.lines = length-start_on (comparison v) bits ready.comparable.lines size in
    length-line_map v.circuit.gates start (subst (λ (n : ℕ). AreGatesOn n v.circuit.gates) (sym long) ready.gates) ∙ long

pub ends_many : (v : ComparedView) → IsReady v → (nodes : List Triple) (now want : List ℕ) → AreEnds (comparison v) nodes now want
    → (length now ≡ v.circuit.lines) × (length want ≡ v.circuit.lines)
ends_many v ready nodes now want ends =
    let q = comparison v in
    let a : Assignment = λ i. false in (
      length-numbers q nodes now (λ b. line_map q.circuit.gates (start_on q b)) a ends.now_are
          ∙ length-ended v ready (bits_in q a) (length-bits_in q a),
      length-numbers q nodes want (wanted_on q) a ends.want_are ∙ length-wanted v ready (bits_in q a) (length-bits_in q a),
    )

-- a gate that is refused for want of memory is refused where there is room for a node more
pub refused_room : (f : Function) (d : DiagramView) (fault : DdFault) → verify_fault fault ≡ faults.Memory _ → MayRefuse f d fault
    → length d.nodes < d.limit
refused_room f d (dd.Full nodes) is refused = absurd (cc)
refused_room f d (dd.Memory _) is refused = refused
