-- Plain graphs are like the settled graphs that they are made of.
use Rattle.std.proofs.Common.{◌≡◌, ℕ, ◌+◌, Bool, true, false, not, ◌&&◌, List, [], ◌∷◌, ◌++◌}
use Rattle.std.proofs.Common.{length, map, take, get_or, slice_get, Some, refl, sym, ap, ap₂, ◌∙◌, arith}
use Rattle.std.specs.Bool.{xor}
use Rattle.std.specs.List.{AllByRecursion, flat_map}
use Rattle.std.proofs.lemmas.Bool.{lt-ltb}
use Rattle.std.proofs.lemmas.List.{length-map, map_push, take_more}
use Rattle.std.proofs.lemmas.Option.{get_or_from_slice_get, slice_get_within}
use Rattle.list_facts.specs.Bits.{bit_of}
use Rattle.list_facts.proofs.BitLemmas.{xor_none, xor_nothing, xor_one}
use Rattle.dependency_graph.specs.declared.node.Base.{Base}
use Rattle.dependency_graph.specs.declared.node.Base.TheVariants as bases
use Rattle.dependency_graph.specs.declared.node.Node.{Node}
use Rattle.dependency_graph.specs.declared.node.Node.TheVariants.{Not, Xor, And}
use Rattle.dependency_graph.specs.declared.node.Sig.{Sig}
use Rattle.dependency_graph.specs.declared.node.Sig.TheVariants.{Const, Is}
use Rattle.dependency_graph.specs.Graphs.{AreKnownNodes, IsKnownBase, IsKnownNode, IsKnownSig, base_bit, base_of}
use Rattle.dependency_graph.specs.Graphs.{made_by, node_bit, nodes_among, operands, sig_bit}
use Rattle.claim_check.specs.Settled.{IsSettled, SettledView, settled_value}
use Rattle.bit_sums.specs.Sums.{SumView, bases_of, sum_value}
use Rattle.sum_graph.specs.Graphs.{AreKnownSums, IsKnownSum, IsSumGraph, is_known, sum_on, sums_made}
use Rattle.sum_graph.specs.Plain.{PlainGraphsAreAlike, plain_of, plain_output, plain_sum}
use Rattle.sum_graph.specs.inside.Operands.{AreTwo}
use Rattle.sum_graph.proofs.OutputLemmas.{some_output}

-- ---- values

pub plain_value : (assignment : ℕ → Bool) (made : List Bool) (node : Node)
    → sum_value (base_bit assignment made) (plain_sum node) ≡ node_bit assignment made node
plain_value assignment made (Not a) =
    let v = base_bit assignment made a in
    xor_one (xor (xor v false) false) ∙ ap not (xor_nothing (xor v false) ∙ xor_nothing v)
plain_value assignment made (Xor a b) =
    let v = base_bit assignment made a in
    let w = base_bit assignment made b in
    xor_none (xor (xor v (xor w false)) false) ∙ xor_nothing (xor v (xor w false)) ∙ ap (xor v) (xor_nothing w)
plain_value assignment made (And a b) =
    let v = base_bit assignment made a in
    let w = base_bit assignment made b in
    let p = xor v false && xor w false in
    xor_none (xor false (xor p false)) ∙ xor_none (xor p false) ∙ xor_nothing p ∙ ap₂ ◌&&◌ (xor_nothing v) (xor_nothing w)

output_value : (assignment : ℕ → Bool) (made : List Bool) (sig : Sig)
    → sum_value (base_bit assignment made) (plain_output sig) ≡ sig_bit assignment made sig
output_value assignment made (Const c) = ap (xor c) (xor_none false) ∙ xor_nothing c
output_value assignment made (Is base) =
    let v = base_bit assignment made base in
    xor_none (xor (xor v false) false) ∙ xor_nothing (xor v false) ∙ xor_nothing v

made_alike : (assignment : ℕ → Bool) (made : List Bool) (nodes : List Node)
    → sums_made assignment made (map plain_sum nodes) ≡ made_by assignment made nodes
made_alike assignment made [] = refl
made_alike assignment made (x ∷ xs) =
    ap (λ (bit : Bool). sums_made assignment (made ++ bit ∷ []) (map plain_sum xs)) (plain_value assignment made x)
    ∙ made_alike assignment (made ++ node_bit assignment made x ∷ []) xs

outputs_alike : (s : SettledView) (input : List Bool) (sigs : List Sig)
    → map (sum_on (map plain_sum s.nodes) input) (map plain_output sigs) ≡ map (settled_value s input) sigs
outputs_alike s input [] = refl
outputs_alike s input (x ∷ xs) =
    let value : sum_on (map plain_sum s.nodes) input (plain_output x) ≡ settled_value s input x =
    ap (λ (made : List Bool). sum_value (base_bit (bit_of input) made) (plain_output x)) (made_alike (bit_of input) [] s.nodes)
    ∙ output_value (bit_of input) (made_by (bit_of input) [] s.nodes) x in
    ap₂ ◌∷◌ value (outputs_alike s input xs)

-- ---- uses

pub same_operands : (node : Node) → bases_of (plain_sum node) ≡ operands node
same_operands (Not a) = refl
same_operands (Xor a b) = refl
same_operands (And a b) = refl

same_base : (sig : Sig) → bases_of (plain_output sig) ≡ base_of sig
same_base (Const c) = refl
same_base (Is base) = refl

steps_alike : (nodes : List Node) → map (λ s. nodes_among (bases_of s)) (map plain_sum nodes) ≡ map (λ node. nodes_among (operands node)) nodes
steps_alike [] = refl
steps_alike (x ∷ xs) = ap₂ ◌∷◌ (ap nodes_among (same_operands x)) (steps_alike xs)

output_bases : (sigs : List Sig) → flat_map bases_of (map plain_output sigs) ≡ flat_map base_of sigs
output_bases [] = refl
output_bases (x ∷ xs) = ap₂ ◌++◌ (same_base x) (output_bases xs)

pub plain_graphs_are_alike : PlainGraphsAreAlike
plain_graphs_are_alike s = record {
  outputs = λ input. outputs_alike s input s.outputs;
  nodes = λ input k. ap (λ (made : List Bool). bit_of made k) (made_alike (bit_of input) [] s.nodes);
  steps = steps_alike s.nodes;
  output_nodes = ap nodes_among (output_bases s.outputs);
}

-- ---- known sums

known_bit : (n k : ℕ) (base : Base) → IsKnownBase n k base → is_known n k base ≡ true
known_bit n k (bases.Input i) known = lt-ltb i n known
known_bit n k (bases.Node j) known = lt-ltb j k known

known_sum : (n k : ℕ) (node : Node) → IsKnownNode n k node → IsKnownSum n k (plain_sum node)
known_sum n k (Not a) known = record { bits = (known_bit n k a known, tt); products = tt }
known_sum n k (Xor a b) known = record { bits = (known_bit n k a known.0, (known_bit n k b known.1, tt)); products = tt }
known_sum n k (And a b) known = record {
  bits = tt;
  products = (record { first = (known_bit n k a known.0, tt); second = (known_bit n k b known.1, tt) }, tt);
}

known_output : (n k : ℕ) (sig : Sig) → IsKnownSig n k sig → IsKnownSum n k (plain_output sig)
known_output n k (Const c) known = record { bits = tt; products = tt }
known_output n k (Is base) known = record { bits = (known_bit n k base known, tt); products = tt }

known_sums : (n k : ℕ) (nodes : List Node) → AreKnownNodes n k nodes → AreKnownSums n k (map plain_sum nodes)
known_sums n k [] known = tt
known_sums n k (x ∷ xs) known = (known_sum n k x known.0, known_sums n (k + 1) xs known.1)

known_outputs : (n k : ℕ) (sigs : List Sig) → AllByRecursion (IsKnownSig n k) sigs → AllByRecursion (IsKnownSum n k) (map plain_output sigs)
known_outputs n k [] known = tt
known_outputs n k (x ∷ xs) known = (known_output n k x known.0, known_outputs n k xs known.1)

pub plain_keeps : (s : SettledView) → IsSettled s → IsSumGraph (plain_of s)
plain_keeps s is =
    let many : length (map plain_sum s.nodes) ≡ length s.nodes = length-map s.nodes plain_sum in
    record {
      nodes = known_sums s.inputs 0 s.nodes is.nodes;
      outputs = rw many (known_outputs s.inputs (length s.nodes) s.outputs is.outputs);
      some = λ some.
          (let more = some_output s is (omega (arith, some, many)) in omega (arith, more, length-map s.outputs plain_output));
      few_inputs = is.few_inputs;
      few_outputs = omega (arith, length-map s.outputs plain_output, is.few_outputs);
      few_nodes = omega (arith, many, is.few_nodes);
    }

-- two operands of a known node are different
pub operands_different : (n k : ℕ) (node : Node) → IsKnownNode n k node → AreTwo node
operands_different n k (Not a) known = tt
operands_different n k (Xor a b) known = known.2
operands_different n k (And a b) known = known.2

-- the sum of one node more
pub one_more : (nodes : List Node) (k : ℕ) (node : Node) (sum : SumView) (some next : List SumView) → slice_get nodes k ≡ Some node
    → next ≡ some ++ sum ∷ [] → sum ≡ plain_sum node → some ≡ map plain_sum (take k nodes) → next ≡ map plain_sum (take (k + 1) nodes)
one_more nodes k node sum some next at pushed is before =
    let here : get_or nodes k node ≡ node = get_or_from_slice_get nodes k node node at in
    pushed
    ∙ ap (λ (sums : List SumView). sums ++ sum ∷ []) before
    ∙ ap (λ (s : SumView). map plain_sum (take k nodes) ++ s ∷ []) (is ∙ ap plain_sum (sym here))
    ∙ sym (map_push plain_sum (take k nodes) (get_or nodes k node))
    ∙ ap (λ (ns : List Node). map plain_sum ns) (sym (take_more nodes k node (slice_get_within nodes k node at)))
