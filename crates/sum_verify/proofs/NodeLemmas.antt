-- The forms of nodes and outputs, by those of what they are made of.
use Rattle.std.proofs.Common.{◌≡◌, ℕ, ◌+◌, ◌<◌, ◌≤◌, inl, inr, Bool, false, not, ◌&&◌, List, [], ◌∷◌, ◌++◌, length, map, take, set, get_or, slice_get}
use Rattle.std.proofs.Common.{Option, Some, None, refl, sym, ap, ap₂, ◌∙◌, subst, arith, length-append}
use Rattle.std.specs.Bool.{xor}
use Rattle.std.specs.List.{AllByRecursion}
use Rattle.std.proofs.lemmas.Bool.{cases_eq, cases_lt}
use Rattle.std.proofs.lemmas.List.{get_or-set_other, get_or-set_same, get_or-take, get_or_append_left, get_or_push, length-set, map-append, take_all, take_more}
use Rattle.std.proofs.lemmas.Option.{none-some, same_Some}
use Rattle.list_facts.specs.Bits.{bit_of}
use Rattle.list_facts.proofs.AllLemmas.{AllByRecursion-at}
use Rattle.dependency_graph.specs.declared.node.Base.{Base}
use Rattle.dependency_graph.specs.declared.node.Base.TheVariants as bases
use Rattle.dependency_graph.specs.declared.node.Node.{Node}
use Rattle.dependency_graph.specs.declared.node.Node.TheVariants.{Not, Xor, And}
use Rattle.dependency_graph.specs.declared.node.Sig.{Sig}
use Rattle.dependency_graph.specs.declared.node.Sig.TheVariants.{Const, Is}
use Rattle.dependency_graph.specs.Graphs.{IsKnownBase, IsKnownNode, IsKnownSig, operands}
use Rattle.linear_forms.specs.Forms.{FormView}
use Rattle.product_sums.specs.Products.{Extends, IsDetermined, ProductsView}
use Rattle.claim_check.specs.Measures.{node_function}
use Rattle.claim_check.specs.Settled.{settled_outputs, settled_value}
use Rattle.claim_check.proofs.NodeLemmas.{known_at, value_of_node}
use Rattle.circuit_verify.specs.Compared.{ComparedView, IsReady, comparison}
use Rattle.circuit_verify.specs.Comparisons.{input_bits, inputs_in, start_on}
use Rattle.circuit_verify.proofs.AskLemmas.{input_bit}
use Rattle.circuit_verify.proofs.ValueLemmas.{node_more, sig_more}
use Rattle.sum_verify.specs.inside.Forms.{AreFormsOf, HasVariables, IsFormOf, form_at}
use Rattle.sum_verify.specs.inside.Nodes.{AreDeterminedBases, HoldsNodes, IsNodeForm, IsSigForm, KeepsForms, base_form}
use Rattle.sum_verify.proofs.FormLemmas.{all_determined, determined, form_in, form_later, form_same, forms_push, forms_same, under_before}

-- ---- bases

-- what is held before node k: the lines as they start, and forms of earlier nodes
pub record IsReached (v : ComparedView) (t : ProductsView) (lines : List FormView) (nodes : List (Option FormView)) (k : ℕ) : Type 0 where
  pub ready : IsReady v
  pub lines_are : AreFormsOf (comparison v) t v.circuit.lines lines (start_on (comparison v))
  pub nodes_are : HoldsNodes v t k nodes

-- as a function of the variables
abbrev pub base_bit_of : ComparedView → Base → List Bool → Bool
base_bit_of v base bits = settled_value v.graph (input_bits (comparison v) bits) (Is base)

pub base_stands : (v : ComparedView) (t : ProductsView) (lines : List FormView) (nodes : List (Option FormView)) (k : ℕ) (base : Base) (f : FormView)
    → IsReached v t lines nodes k → IsKnownBase v.graph.inputs k base → base_form lines nodes base ≡ Some f
    → IsFormOf (comparison v) t f (base_bit_of v base)
base_stands v t lines nodes k (bases.Input i) f at known is =
    let q = comparison v in
    let low : i < inputs_in q = omega (arith, known, at.ready.inputs) in
    let inside : i < v.circuit.lines = omega (arith, low, at.ready.comparable.lines) in
    subst (λ (g : FormView). IsFormOf q t g (base_bit_of v (bases.Input i))) (same_Some (form_at lines i) f is)
    (form_same q t (form_at lines i) (λ bits. bit_of (start_on q bits) i) (base_bit_of v (bases.Input i))
    (λ bits size. input_bit q bits i size low ∙ sym (get_or-take (inputs_in q) bits i false low))
    (form_in q t v.circuit.lines i lines (start_on q) at.lines_are inside))
base_stands v t lines nodes k (bases.Node j) f at known is = at.nodes_are.each j f known is

-- each form that is held is determined
pub bases_determined : (v : ComparedView) (t : ProductsView) (lines : List FormView) (nodes : List (Option FormView)) (k : ℕ)
    → HasVariables (comparison v) t → IsReached v t lines nodes k → AreDeterminedBases t lines nodes
bases_determined v t lines nodes k variables at = record {
  each = each;
}
  where
    each : (base : Base) (f : FormView) → IsKnownBase (length lines) (length nodes) base → base_form lines nodes base ≡ Some f → IsDetermined t f
    each (bases.Input i) f known is =
        subst (IsDetermined t) (same_Some (form_at lines i) f is)
        ((all_determined (comparison v) t v.circuit.lines lines (start_on (comparison v)) variables at.lines_are).each i known)
    each (bases.Node j) f known is =
        determined (comparison v) t f (base_bit_of v (bases.Node j)) variables
        (at.nodes_are.each j f (omega (arith, known, at.nodes_are.one_each)) is)

-- ---- nodes

-- what a node is made of is held
pub node_placed : (v : ComparedView) (t : ProductsView) (lines : List FormView) (nodes : List (Option FormView)) (k : ℕ) (node : Node)
    → IsReached v t lines nodes k → slice_get v.graph.nodes k ≡ Some node → IsKnownNode (length lines) (length nodes) node
node_placed v t lines nodes k node at is =
    node_more v.graph.inputs (length lines) k (length nodes) node (omega (arith, at.ready.inputs, at.ready.comparable.lines, at.lines_are.one_each))
    (omega (arith, at.nodes_are.one_each)) (known_at v.graph.inputs k v.graph.nodes node at.ready.settled.nodes is)

known_operands : (n k l : ℕ) (node : Node) → k ≤ l → IsKnownNode n k node → AllByRecursion (IsKnownBase n l) (operands node)
known_operands n k l (Not a) few known = (later a known, tt)
  where
    later : (base : Base) → IsKnownBase n k base → IsKnownBase n l base
    later (bases.Input i) known = known
    later (bases.Node j) known = omega (arith, few, known)
known_operands n k l (Xor a b) few known = (later a known.0, (later b known.1, tt))
  where
    later : (base : Base) → IsKnownBase n k base → IsKnownBase n l base
    later (bases.Input i) known = known
    later (bases.Node j) known = omega (arith, few, known)
known_operands n k l (And a b) few known = (later a known.0, (later b known.1, tt))
  where
    later : (base : Base) → IsKnownBase n k base → IsKnownBase n l base
    later (bases.Input i) known = known
    later (bases.Node j) known = omega (arith, few, known)

-- its operands are inputs and nodes that are held
pub operands_placed : (v : ComparedView) (k l : ℕ) (node : Node) → IsReady v → k ≤ l → slice_get v.graph.nodes k ≡ Some node
    → AllByRecursion (IsKnownBase v.graph.inputs l) (operands node)
operands_placed v k l node ready few is =
    known_operands v.graph.inputs k l node few (known_at v.graph.inputs k v.graph.nodes node ready.settled.nodes is)

-- the form of the next node
pub node_stands : (v : ComparedView) (old now : ProductsView) (lines : List FormView) (nodes : List (Option FormView)) (k : ℕ) (node : Node)
    (f : FormView) → IsReached v old lines nodes k → Extends old now → slice_get v.graph.nodes k ≡ Some node → IsKnownNode v.graph.inputs k node
    → IsNodeForm now lines nodes node f → IsFormOf (comparison v) now f (λ bits. node_function v.graph k (input_bits (comparison v) bits))
node_stands v old now lines nodes k (Not a) f at more is known made = record {
  same = λ bits atom under.
      let q = comparison v in
      let before = under_before q old now bits atom more under in
      made.same atom
      ∙ ap not ((base_stands v old lines nodes k a made.operand at known made.is).same bits atom before)
      ∙ sym (value_of_node v.graph (input_bits q bits) k (Not a) at.ready.settled.nodes is);
}
node_stands v old now lines nodes k (Xor a b) f at more is known made = record {
  same = λ bits atom under.
      let q = comparison v in
      let before = under_before q old now bits atom more under in
      made.same atom under.respects
      ∙ ap₂ xor
      ((base_stands v old lines nodes k a made.first at known.0 made.left_is).same bits atom before)
      ((base_stands v old lines nodes k b made.second at known.1 made.right_is).same bits atom before)
      ∙ sym (value_of_node v.graph (input_bits q bits) k (Xor a b) at.ready.settled.nodes is);
}
node_stands v old now lines nodes k (And a b) f at more is known made = record {
  same = λ bits atom under.
      let q = comparison v in
      let before = under_before q old now bits atom more under in
      made.same atom under.respects
      ∙ ap₂ ◌&&◌
      ((base_stands v old lines nodes k a made.first at known.0 made.left_is).same bits atom before)
      ((base_stands v old lines nodes k b made.second at known.1 made.right_is).same bits atom before)
      ∙ sym (value_of_node v.graph (input_bits q bits) k (And a b) at.ready.settled.nodes is);
}

-- the nodes with the next one
pub nodes_more : (v : ComparedView) (old now : ProductsView) (nodes : List (Option FormView)) (k : ℕ) (f : FormView) → Extends old now
    → HoldsNodes v old k nodes → IsFormOf (comparison v) now f (λ bits. node_function v.graph k (input_bits (comparison v) bits))
    → HoldsNodes v now (k + 1) (nodes ++ Some f ∷ [])
nodes_more v old now nodes k f more are here = record {
  one_each = length-append nodes (Some f ∷ []) ∙ omega (arith, are.one_each);
  each = λ j g low is. elim (cases_lt j k) as (λ _. IsFormOf (comparison v) now g (λ bits. node_function v.graph j (input_bits (comparison v) bits))) [
    | inl early ↦
        form_later (comparison v) old now g (λ bits. node_function v.graph j (input_bits (comparison v) bits)) more
        (are.each j g early (sym (get_or_append_left nodes (Some f ∷ []) None j (omega (arith, early, are.one_each))) ∙ is))
    | inr late ↦
        let at : k ≡ j = omega (arith, late, low) in
        let same : f ≡ g = same_Some f g (sym (get_or_push nodes (Some f) None j (are.one_each ∙ at)) ∙ is) in
        subst (λ (i : ℕ). IsFormOf (comparison v) now g (λ bits. node_function v.graph i (input_bits (comparison v) bits))) at
        (subst (λ (h : FormView). IsFormOf (comparison v) now h (λ bits. node_function v.graph k (input_bits (comparison v) bits))) same here)
  ];
}

pub nodes_none : (v : ComparedView) (t : ProductsView) → HoldsNodes v t 0 []
nodes_none v t = record { one_each = omega arith; each = λ k f low. absurd (omega (arith, low)) }

-- ---- forms that are let go

pub kept_all : (nodes : List (Option FormView)) → KeepsForms nodes nodes
kept_all nodes = record { one_each = refl; each = λ k f is. is }

pub kept_further : (a b c : List (Option FormView)) → KeepsForms a b → KeepsForms b c → KeepsForms a c
kept_further a b c first second = record {
  one_each = second.one_each ∙ first.one_each;
  each = λ k f is. first.each k f (second.each k f is);
}

pub let_go : (nodes : List (Option FormView)) (k : ℕ) → k < length nodes → KeepsForms nodes (set nodes k None)
let_go nodes k low = record {
  one_each = length-set nodes k None;
  each = λ j f is. elim (cases_eq j k) as (λ _. get_or nodes j None ≡ Some f) [
    | inl same ↦
        absurd (none-some f (sym (get_or-set_same nodes k None None low) ∙ ap (λ (i : ℕ). get_or (set nodes k None) i None) (sym same) ∙ is))
    | inr other ↦ sym (get_or-set_other nodes k j None None other) ∙ is
  ];
}

pub nodes_kept : (v : ComparedView) (t : ProductsView) (count : ℕ) (old now : List (Option FormView)) → KeepsForms old now → HoldsNodes v t count old
    → HoldsNodes v t count now
nodes_kept v t count old now kept are = record {
  one_each = kept.one_each ∙ are.one_each;
  each = λ k f low is. are.each k f low (kept.each k f is);
}

-- ---- outputs

pub sig_placed : (v : ComparedView) (t : ProductsView) (lines : List FormView) (nodes : List (Option FormView)) (i : ℕ) (d : Sig)
    → IsReached v t lines nodes (length v.graph.nodes) → i < length v.graph.outputs
    → IsKnownSig (length lines) (length nodes) (get_or v.graph.outputs i d)
sig_placed v t lines nodes i d at low =
    sig_more v.graph.inputs (length lines) (length v.graph.nodes) (length nodes) (get_or v.graph.outputs i d)
    (omega (arith, at.ready.inputs, at.ready.comparable.lines, at.lines_are.one_each)) (omega (arith, at.nodes_are.one_each))
    (AllByRecursion-at (IsKnownSig v.graph.inputs (length v.graph.nodes)) v.graph.outputs i d at.ready.settled.outputs low)

sig_stands : (v : ComparedView) (t : ProductsView) (lines : List FormView) (nodes : List (Option FormView)) (sig : Sig) (f : FormView)
    → IsReached v t lines nodes (length v.graph.nodes) → IsKnownSig v.graph.inputs (length v.graph.nodes) sig → IsSigForm lines nodes sig f
    → IsFormOf (comparison v) t f (λ bits. settled_value v.graph (input_bits (comparison v) bits) sig)
sig_stands v t lines nodes (Const bit) f at known is = record { same = λ bits atom under. is atom }
sig_stands v t lines nodes (Is base) f at known is = base_stands v t lines nodes (length v.graph.nodes) base f at known is

-- the outputs as far as the i-th
abbrev pub first_outputs : ComparedView → ℕ → List Bool → List Bool
first_outputs v i bits = map (settled_value v.graph (input_bits (comparison v) bits)) (take i v.graph.outputs)

pub outputs_more : (v : ComparedView) (t : ProductsView) (lines : List FormView) (nodes : List (Option FormView)) (outputs : List FormView) (i : ℕ) (d : Sig)
    (f : FormView) → IsReached v t lines nodes (length v.graph.nodes) → i < length v.graph.outputs
    → IsSigForm lines nodes (get_or v.graph.outputs i d) f → AreFormsOf (comparison v) t i outputs (first_outputs v i)
    → AreFormsOf (comparison v) t (i + 1) (outputs ++ f ∷ []) (first_outputs v (i + 1))
outputs_more v t lines nodes outputs i d f at low made are =
    let q = comparison v in
    let sig : Sig = get_or v.graph.outputs i d in
    let known = AllByRecursion-at (IsKnownSig v.graph.inputs (length v.graph.nodes)) v.graph.outputs i d at.ready.settled.outputs low in
    forms_same q t (i + 1) (outputs ++ f ∷ []) (λ bits. first_outputs v i bits ++ settled_value v.graph (input_bits q bits) sig ∷ []) (first_outputs v (i + 1))
    (λ bits size. sym (ap (map (settled_value v.graph (input_bits q bits))) (take_more v.graph.outputs i d low)
    ∙ map-append (settled_value v.graph (input_bits q bits)) (take i v.graph.outputs) (sig ∷ [])))
    (forms_push q t i outputs f (first_outputs v i) (λ bits. settled_value v.graph (input_bits q bits) sig) are
    (sig_stands v t lines nodes sig f at known made))

pub all_outputs : (v : ComparedView) (t : ProductsView) (outputs : List FormView) (i : ℕ) → i ≡ length v.graph.outputs
    → AreFormsOf (comparison v) t i outputs (first_outputs v i)
    → AreFormsOf (comparison v) t (length v.graph.outputs) outputs (λ bits. settled_outputs v.graph (input_bits (comparison v) bits))
all_outputs v t outputs i most are =
    let q = comparison v in
    let o : ℕ = length v.graph.outputs in
    forms_same q t o outputs (first_outputs v o) (λ bits. settled_outputs v.graph (input_bits q bits))
    (λ bits size. ap (map (settled_value v.graph (input_bits q bits))) (take_all o v.graph.outputs (omega arith)))
    (subst (λ (k : ℕ). AreFormsOf q t k outputs (first_outputs v k)) most are)
