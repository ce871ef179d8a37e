-- The forms of a graph of sums that has the outputs of a settled graph.
use Rattle.std.specs.Prelude.{◌≡◌, ℕ, Bool, List, [], length, take}
use Rattle.std.specs.Bool.{xor}
use Rattle.list_facts.specs.Bits.{bit_of}
use Rattle.dependency_graph.specs.declared.node.Base.{Base}
use Rattle.dependency_graph.specs.declared.node.Base.TheVariants as bases
use Rattle.bit_sums.specs.Sums.{ProductView, SumView, product_value, sum_value, xor_by}
use Rattle.claim_check.specs.Settled.{SettledView, settled_outputs}
use Rattle.linear_forms.specs.Forms.{FormView, form_value}
use Rattle.product_sums.specs.Products.{IsDetermined, ProductsView, Respects}
use Rattle.sum_graph.specs.Graphs.{IsSumGraph, SumGraphView, sum_outputs, sums_made}
use Rattle.circuit_verify.specs.Compared.{ComparedView, comparison}
use Rattle.circuit_verify.specs.Comparisons.{input_bits}
use Rattle.sum_verify.specs.inside.Forms.{AreFormsOf, form_at}

-- a graph of sums with the inputs of the settled graph, and on every input with the values of its
-- outputs
pub record HasOutputsOf (s : SettledView) (g : SumGraphView) : Type 0 where
  pub keeps : IsSumGraph g
  pub inputs : g.inputs ≡ s.inputs
  pub outputs : length g.outputs ≡ length s.outputs
  pub values : (input : List Bool) → sum_outputs g input ≡ settled_outputs s input

-- ---- sums of what is held

-- the form of a base, by those of lines and nodes, and its bit
abbrev pub held_form : List FormView → List FormView → Base → FormView
held_form lines nodes (bases.Input i) = form_at lines i
held_form lines nodes (bases.Node k) = form_at nodes k

abbrev pub held_bit : List FormView → List FormView → (ℕ → Bool) → Base → Bool
held_bit lines nodes atom base = form_value atom (held_form lines nodes base)

-- the form of the sum of some bits and a constant
pub record IsHeldBits (t : ProductsView) (lines nodes : List FormView) (bits : List Base)
    (one : Bool) (f : FormView) : Type 0 where
  pub determined : IsDetermined t f
  pub same : (atom : ℕ → Bool)
      → form_value atom f ≡ xor one (xor_by (held_bit lines nodes atom) bits)

-- the form of a product
pub record IsHeldProduct (t : ProductsView) (lines nodes : List FormView) (p : ProductView)
    (f : FormView) : Type 0 where
  pub determined : IsDetermined t f
  pub same : (atom : ℕ → Bool) → Respects t atom
      → form_value atom f ≡ product_value (held_bit lines nodes atom) p

-- the form of a sum with the first k of its products
pub record IsHeldPart (t : ProductsView) (lines nodes : List FormView) (s : SumView) (k : ℕ)
    (f : FormView) : Type 0 where
  pub determined : IsDetermined t f
  pub same : (atom : ℕ → Bool) → Respects t atom
      → form_value atom f ≡ xor (xor s.one (xor_by (held_bit lines nodes atom) s.bits))
      (xor_by (product_value (held_bit lines nodes atom)) (take k s.products))

-- the form of a sum
pub record IsHeldSum (t : ProductsView) (lines nodes : List FormView) (s : SumView)
    (f : FormView) : Type 0 where
  pub determined : IsDetermined t f
  pub same : (atom : ℕ → Bool) → Respects t atom
      → form_value atom f ≡ sum_value (held_bit lines nodes atom) s

-- ---- nodes

-- the bits of these nodes, as functions of the variables
abbrev pub bits_of_nodes : ComparedView → List SumView → List Bool → List Bool
bits_of_nodes v done bits = sums_made (bit_of (input_bits (comparison v) bits)) [] done

-- so many forms stand for these nodes, one for each
abbrev pub AreNodesOf : ComparedView → ProductsView → ℕ → List SumView → List FormView → Type 0
AreNodesOf v t count done nodes = AreFormsOf (comparison v) t count nodes (bits_of_nodes v done)
