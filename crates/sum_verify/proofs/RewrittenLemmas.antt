-- Forms of sums of lines and nodes, and of the nodes and outputs of a graph of sums.
use Rattle.std.proofs.Common.{◌≡◌, ℕ, ◌+◌, ◌<◌, ◌≤◌, Bool, true, false, ◌&&◌, List, [], ◌∷◌, ◌++◌, length, map, take, slice_get}
use Rattle.std.proofs.Common.{IfOk, IfSome, Option, None, Some, Result, Ok, Err, refl, sym, ap, ap₂, ◌∙◌, subst, arith}
use Rattle.std.specs.Bool.{xor}
use Rattle.std.proofs.lemmas.Bool.{lt-ltb, ltb-true}
use Rattle.std.proofs.lemmas.List.{get_or-take, map-append, take_all}
use Rattle.std.proofs.lemmas.Option.{get_or_from_slice_get, slice_get_within}
use Rattle.list_facts.specs.Bits.{bit_of}
use Rattle.list_facts.proofs.AllLemmas.{AllByRecursion-at, AllByRecursion-weaker, AllFrom-at}
use Rattle.list_facts.proofs.BitLemmas.{xor_left, xor_none, xor_nothing}
use Rattle.dependency_graph.specs.declared.node.Base.{Base}
use Rattle.dependency_graph.specs.declared.node.Base.TheVariants as bases
use Rattle.dependency_graph.specs.Graphs.{base_bit}
use Rattle.dependency_graph.proofs.MadeLemmas.{bits_made-append}
use Rattle.bit_sums.specs.Sums.{AreAll, IsProductOver, ProductView, SumView, product_value, xor_by}
use Rattle.bit_sums.proofs.SetLemmas.{value-append}
use Rattle.linear_forms.specs.Forms.{FormView, IsConstant, IsSum, form_value}
use Rattle.product_sums.specs.Products.{Extends, IsDetermined, IsProduct, ProductsView}
use Rattle.product_sums.proofs.TableLemmas.{determined_constant, determined_later, determined_sum, respects_before}
use Rattle.claim_check.specs.Settled.{SettledView, settled_outputs}
use Rattle.few_products.specs.Fewer.{IsFewerOf}
use Rattle.sum_graph.specs.Graphs.{IsKnownSum, IsLeanOf, IsSumGraph, SumGraphView, is_known, sum_bit, sum_on, sums_made}
use Rattle.sum_graph.proofs.SumNodeLemmas.{known_further, sum_same}
use Rattle.sum_graph.proofs.WalkLemmas.{take_next}
use Rattle.circuit_verify.specs.Compared.{ComparedView, IsReady, comparison}
use Rattle.circuit_verify.specs.Comparisons.{input_bits, inputs_in, start_on}
use Rattle.circuit_verify.proofs.AskLemmas.{input_bit}
use Rattle.sum_verify.specs.inside.Forms.{AreDetermined, AreFormsOf, IsFormOf, IsUnder}
use Rattle.sum_verify.specs.inside.Rewritten.{AreNodesOf, HasOutputsOf, IsHeldBits, IsHeldPart, IsHeldProduct, IsHeldSum, bits_of_nodes, held_bit, held_form}
use Rattle.sum_verify.proofs.FormLemmas.{form_in, forms_later, forms_push, forms_same, under_before}

-- ---- the graph

-- what is found over a lean graph has the outputs of the settled graph
pub found_outputs : {E : Type 0} (s : SettledView) (l : SumGraphView) (r : Result (Option SumGraphView) E) → IsLeanOf s l
    → IfOk r (λ found. IfSome found (IsFewerOf l)) → IfOk r (λ found. IfSome found IsSumGraph) → IfOk r (λ found. IfSome found (HasOutputsOf s))
found_outputs s l (Ok None) lean fewer keeps = tt
found_outputs s l (Ok (Some g)) lean fewer keeps = record {
  keeps = keeps;
  inputs = fewer.inputs ∙ lean.inputs;
  outputs = fewer.outputs ∙ lean.outputs;
  values = λ input. fewer.values input ∙ lean.values input;
}
found_outputs s l (Err e) lean fewer keeps = tt

-- ---- bases

pub input_low : (n k : ℕ) (b : Base) (i : ℕ) → b ≡ bases.Input i → is_known n k b ≡ true → i < n
input_low n k b i is known = ltb-true i n (subst (λ (x : Base). is_known n k x ≡ true) is known)

pub node_low : (n k : ℕ) (b : Base) (j : ℕ) → b ≡ bases.Node j → is_known n k b ≡ true → j < k
node_low n k b j is known = ltb-true j k (subst (λ (x : Base). is_known n k x ≡ true) is known)

bit_determined : (t : ProductsView) (lines nodes : List FormView) (b : Base) → AreDetermined t lines → AreDetermined t nodes
    → is_known (length lines) (length nodes) b ≡ true → IsDetermined t (held_form lines nodes b)
bit_determined t lines nodes (bases.Input i) first second known = first.each i (ltb-true i (length lines) known)
bit_determined t lines nodes (bases.Node k) first second known = second.each k (ltb-true k (length nodes) known)

base_wider : (n m k : ℕ) → n ≤ m → (b : Base) → is_known n k b ≡ true → is_known m k b ≡ true
base_wider n m k le (bases.Input i) known = lt-ltb i m (omega (arith, ltb-true i n known, le))
base_wider n m k le (bases.Node j) known = known

bits_wider : (n m k : ℕ) → n ≤ m → (bits : List Base) → AreAll (is_known n k) bits → AreAll (is_known m k) bits
bits_wider n m k le bits all = AllByRecursion-weaker (λ b. is_known n k b ≡ true) (λ b. is_known m k b ≡ true) (base_wider n m k le) bits all

sum_wider : (n m k : ℕ) → n ≤ m → (s : SumView) → IsKnownSum n k s → IsKnownSum m k s
sum_wider n m k le s known = record {
  bits = bits_wider n m k le s.bits known.bits;
  products = AllByRecursion-weaker (IsProductOver (is_known n k)) (IsProductOver (is_known m k))
      (λ p over. record { first = bits_wider n m k le p.first over.first; second = bits_wider n m k le p.second over.second })
      s.products known.products;
}

-- ---- some bits

pub bits_begun : (t : ProductsView) (lines nodes : List FormView) (one : Bool) (f : FormView) → IsConstant one f → IsHeldBits t lines nodes [] one f
bits_begun t lines nodes one f is = record {
  determined = determined_constant t one f is;
  same = λ atom. is atom ∙ sym (xor_nothing one);
}

-- one more element of a list
value_next : {A : Type 0} (test : A → Bool) (start : Bool) (xs : List A) (k : ℕ) (x : A) → slice_get xs k ≡ Some x
    → xor (xor start (xor_by test (take k xs))) (test x) ≡ xor start (xor_by test (take (k + 1) xs))
value_next test start xs k x e =
    let before = xor_by test (take k xs) in
    sym (xor_left start before (test x))
    ∙ ap (λ v. xor start (xor before v)) (sym (xor_nothing (test x)))
    ∙ ap (xor start) (sym (value-append test (take k xs) (x ∷ [])))
    ∙ ap (λ l. xor start (xor_by test l)) (sym (take_next xs k x e))

pub bits_next : (t : ProductsView) (lines nodes : List FormView) (bits : List Base) (one : Bool) (k : ℕ) (b : Base) (old next new : FormView)
    → slice_get bits k ≡ Some b → AreDetermined t lines → AreDetermined t nodes → AreAll (is_known (length lines) (length nodes)) bits
    → IsHeldBits t lines nodes (take k bits) one old → next ≡ held_form lines nodes b → IsSum old next new
    → IsHeldBits t lines nodes (take (k + 1) bits) one new
bits_next t lines nodes bits one k b old next new e first second all before is sum =
    let known = subst (λ (x : Base). is_known (length lines) (length nodes) x ≡ true) (get_or_from_slice_get bits k b b e)
    (AllByRecursion-at (λ x. is_known (length lines) (length nodes) x ≡ true) bits k b all (slice_get_within bits k b e)) in
    record {
      determined = determined_sum t old next new sum before.determined
          (subst (IsDetermined t) (sym is) (bit_determined t lines nodes b first second known));
      same = λ atom.
          sum atom
          ∙ ap₂ xor (before.same atom) (ap (form_value atom) is)
          ∙ value_next (held_bit lines nodes atom) one bits k b e;
    }

pub bits_done : (t : ProductsView) (lines nodes : List FormView) (bits : List Base) (one : Bool) (k : ℕ) (f : FormView) → length bits ≤ k
    → IsHeldBits t lines nodes (take k bits) one f → IsHeldBits t lines nodes bits one f
bits_done t lines nodes bits one k f end is = subst (λ l. IsHeldBits t lines nodes l one f) (take_all k bits end) is

-- ---- products

pub product_held : (old mid now : ProductsView) (lines nodes : List FormView) (p : ProductView) (f g product : FormView)
    → IsHeldBits old lines nodes p.first false f → IsHeldBits mid lines nodes p.second false g → IsProduct now f g product → IsDetermined now product
    → IsHeldProduct now lines nodes p product
product_held old mid now lines nodes p f g product first second is determined = record {
  determined = determined;
  same = λ atom by. is atom by ∙ ap₂ ◌&&◌ (first.same atom ∙ xor_none _) (second.same atom ∙ xor_none _);
}

-- ---- sums

pub part_begun : (t : ProductsView) (lines nodes : List FormView) (s : SumView) (f : FormView) → IsHeldBits t lines nodes s.bits s.one f
    → IsHeldPart t lines nodes s 0 f
part_begun t lines nodes s f is = record { determined = is.determined; same = λ atom by. is.same atom ∙ sym (xor_nothing _) }

pub part_next : (old now : ProductsView) (lines nodes : List FormView) (s : SumView) (k : ℕ) (p : ProductView) (f next new : FormView)
    → slice_get s.products k ≡ Some p → Extends old now → IsHeldPart old lines nodes s k f → IsHeldProduct now lines nodes p next → IsSum f next new
    → IsHeldPart now lines nodes s (k + 1) new
part_next old now lines nodes s k p f next new e more before is sum = record {
  determined = determined_sum now f next new sum (determined_later old now f more before.determined) is.determined;
  same = λ atom by.
      sum atom
      ∙ ap₂ xor (before.same atom (respects_before old now atom more by)) (is.same atom by)
      ∙ value_next (product_value (held_bit lines nodes atom)) (xor s.one (xor_by (held_bit lines nodes atom) s.bits)) s.products k p e;
}

pub part_done : (t : ProductsView) (lines nodes : List FormView) (s : SumView) (k : ℕ) (f : FormView) → length s.products ≤ k
    → IsHeldPart t lines nodes s k f → IsHeldSum t lines nodes s f
part_done t lines nodes s k f end is = record {
  determined = is.determined;
  same = λ atom by.
      let h = held_bit lines nodes atom in
      is.same atom by
      ∙ ap (λ l. xor (xor s.one (xor_by h s.bits)) (xor_by (product_value h) l)) (take_all k s.products end)
      ∙ sym (xor_left s.one (xor_by h s.bits) (xor_by (product_value h) s.products));
}

-- ---- nodes

-- what is held of the lines as they start, and of these nodes
pub record IsReached (v : ComparedView) (t : ProductsView) (lines nodes : List FormView) (n k : ℕ) (done : List SumView) : Type 0 where
  pub ready : IsReady v
  pub inputs : n ≡ v.graph.inputs
  pub lines_are : AreFormsOf (comparison v) t v.circuit.lines lines (start_on (comparison v))
  pub nodes_are : AreNodesOf v t k done nodes

held_agrees : (v : ComparedView) (t : ProductsView) (lines nodes : List FormView) (n k : ℕ) (done : List SumView) → IsReached v t lines nodes n k done
    → (bits : List Bool) (atom : ℕ → Bool) → IsUnder (comparison v) t bits atom → (b : Base) → is_known n k b ≡ true
    → held_bit lines nodes atom b ≡ base_bit (bit_of (input_bits (comparison v) bits)) (bits_of_nodes v done bits) b
held_agrees v t lines nodes n k done at bits atom under (bases.Input i) known =
    let q = comparison v in
    let low : i < inputs_in q = omega (arith, ltb-true i n known, at.inputs, at.ready.inputs) in
    let inside : i < v.circuit.lines = omega (arith, low, at.ready.comparable.lines) in
    (form_in q t v.circuit.lines i lines (start_on q) at.lines_are inside).same bits atom under
    ∙ input_bit q bits i under.gives.are low
    ∙ sym (get_or-take (inputs_in q) bits i false low)
held_agrees v t lines nodes n k done at bits atom under (bases.Node j) known =
    (form_in (comparison v) t k j nodes (bits_of_nodes v done) at.nodes_are (ltb-true j k known)).same bits atom under

-- a sum over these nodes, as a function of the variables
abbrev pub sum_over : ComparedView → List SumView → SumView → List Bool → Bool
sum_over v done s bits = sum_on done (input_bits (comparison v) bits) s

pub sum_stands : (v : ComparedView) (old now : ProductsView) (lines nodes : List FormView) (n k : ℕ) (done : List SumView) (s : SumView) (f : FormView)
    → IsReached v old lines nodes n k done → Extends old now → IsKnownSum n k s → IsHeldSum now lines nodes s f
    → IsFormOf (comparison v) now f (sum_over v done s)
sum_stands v old now lines nodes n k done s f at more known made = record {
  same = λ bits atom under.
      made.same atom under.respects
      ∙ sum_same (held_bit lines nodes atom) (base_bit (bit_of (input_bits (comparison v) bits)) (bits_of_nodes v done bits)) (is_known n k)
      (held_agrees v old lines nodes n k done at bits atom (under_before (comparison v) old now bits atom more under)) s known;
}

-- what a sum is made of is held
pub sum_placed : (v : ComparedView) (t : ProductsView) (lines nodes : List FormView) (n k : ℕ) (done : List SumView) (s : SumView)
    → IsReached v t lines nodes n k done → IsKnownSum n k s → IsKnownSum (length lines) (length nodes) s
sum_placed v t lines nodes n k done s at known =
    let few : n ≤ length lines = omega (arith, at.inputs, at.ready.inputs, at.ready.comparable.lines, at.lines_are.one_each) in
    known_further (length lines) k (length nodes) (omega (arith, at.nodes_are.one_each)) s (sum_wider n (length lines) k few s known)

pub node_known : (g : SumGraphView) (k : ℕ) (s : SumView) → IsSumGraph g → slice_get g.nodes k ≡ Some s → IsKnownSum g.inputs k s
node_known g k s keeps e = AllFrom-at (IsKnownSum g.inputs) k g.nodes s keeps.nodes e

pub nodes_begun : (v : ComparedView) (t : ProductsView) (g : SumGraphView) → AreNodesOf v t 0 (take 0 g.nodes) []
nodes_begun v t g = record { one_each = omega arith; same = λ bits atom under. refl }

pub nodes_next : (v : ComparedView) (old now : ProductsView) (lines nodes : List FormView) (g : SumGraphView) (k : ℕ) (s : SumView) (f : FormView)
    → IsReached v old lines nodes g.inputs k (take k g.nodes) → IsSumGraph g → Extends old now → slice_get g.nodes k ≡ Some s
    → IsHeldSum now lines nodes s f → AreNodesOf v now (k + 1) (take (k + 1) g.nodes) (nodes ++ f ∷ [])
nodes_next v old now lines nodes g k s f at keeps more e made =
    let q = comparison v in
    let done = take k g.nodes in
    forms_same q now (k + 1) (nodes ++ f ∷ []) (λ bits. bits_of_nodes v done bits ++ sum_over v done s bits ∷ []) (bits_of_nodes v (take (k + 1) g.nodes))
    (λ bits size.
    let bit = sum_bit (bit_of (input_bits q bits)) in
    sym (ap (λ l. sums_made (bit_of (input_bits q bits)) [] l) (take_next g.nodes k s e) ∙ bits_made-append bit [] done (s ∷ [])))
    (forms_push q now k nodes f (bits_of_nodes v done) (sum_over v done s) (forms_later q old now k nodes (bits_of_nodes v done) more at.nodes_are)
    (sum_stands v old now lines nodes g.inputs k done s f at more (node_known g k s keeps e) made))

pub nodes_done : (v : ComparedView) (t : ProductsView) (g : SumGraphView) (k : ℕ) (nodes : List FormView) → k ≡ length g.nodes
    → AreNodesOf v t k (take k g.nodes) nodes → AreNodesOf v t (length g.nodes) g.nodes nodes
nodes_done v t g k nodes end are =
    let all : AreNodesOf v t (length g.nodes) (take (length g.nodes) g.nodes) nodes = subst (λ (j : ℕ). AreNodesOf v t j (take j g.nodes) nodes) end are in
    subst (λ l. AreNodesOf v t (length g.nodes) l nodes) (take_all (length g.nodes) g.nodes (omega arith)) all

-- ---- outputs

-- the outputs as far as the i-th
abbrev pub first_sums : ComparedView → SumGraphView → ℕ → List Bool → List Bool
first_sums v g i bits = map (sum_on g.nodes (input_bits (comparison v) bits)) (take i g.outputs)

pub output_known : (g : SumGraphView) (i : ℕ) (s : SumView) → IsSumGraph g → slice_get g.outputs i ≡ Some s → IsKnownSum g.inputs (length g.nodes) s
output_known g i s keeps e =
    subst (IsKnownSum g.inputs (length g.nodes)) (get_or_from_slice_get g.outputs i s s e)
    (AllByRecursion-at (IsKnownSum g.inputs (length g.nodes)) g.outputs i s keeps.outputs (slice_get_within g.outputs i s e))

pub outputs_begun : (v : ComparedView) (t : ProductsView) (g : SumGraphView) → AreFormsOf (comparison v) t 0 [] (first_sums v g 0)
outputs_begun v t g = record { one_each = omega arith; same = λ bits atom under. refl }

pub outputs_next : (v : ComparedView) (old now : ProductsView) (lines nodes outputs : List FormView) (g : SumGraphView) (i : ℕ) (s : SumView) (f : FormView)
    → IsReached v old lines nodes g.inputs (length g.nodes) g.nodes → IsSumGraph g → Extends old now → slice_get g.outputs i ≡ Some s
    → IsHeldSum now lines nodes s f → AreFormsOf (comparison v) old i outputs (first_sums v g i)
    → AreFormsOf (comparison v) now (i + 1) (outputs ++ f ∷ []) (first_sums v g (i + 1))
outputs_next v old now lines nodes outputs g i s f at keeps more e made are =
    let q = comparison v in
    forms_same q now (i + 1) (outputs ++ f ∷ []) (λ bits. first_sums v g i bits ++ sum_over v g.nodes s bits ∷ []) (first_sums v g (i + 1))
    (λ bits size. sym (ap (map (sum_on g.nodes (input_bits q bits))) (take_next g.outputs i s e)
    ∙ map-append (sum_on g.nodes (input_bits q bits)) (take i g.outputs) (s ∷ [])))
    (forms_push q now i outputs f (first_sums v g i) (sum_over v g.nodes s) (forms_later q old now i outputs (first_sums v g i) more are)
    (sum_stands v old now lines nodes g.inputs (length g.nodes) g.nodes s f at more (output_known g i s keeps e) made))

pub outputs_done : (v : ComparedView) (t : ProductsView) (g : SumGraphView) (i : ℕ) (outputs : List FormView) → i ≡ length g.outputs
    → HasOutputsOf v.graph g → AreFormsOf (comparison v) t i outputs (first_sums v g i)
    → AreFormsOf (comparison v) t (length v.graph.outputs) outputs (λ bits. settled_outputs v.graph (input_bits (comparison v) bits))
outputs_done v t g i outputs end has are =
    let q = comparison v in
    let o : ℕ = length v.graph.outputs in
    let count : i ≡ o = end ∙ has.outputs in
    forms_same q t o outputs (first_sums v g o) (λ bits. settled_outputs v.graph (input_bits q bits))
    (λ bits size. ap (map (sum_on g.nodes (input_bits q bits))) (take_all o g.outputs (omega (arith, has.outputs))) ∙ has.values (input_bits q bits))
    (subst (λ (k : ℕ). AreFormsOf q t k outputs (first_sums v g k)) count are)
