-- The forms of the nodes of a settled graph.
use Rattle.std.specs.Prelude.{◌≡◌, ℕ, ◌<◌, Bool, not, ◌&&◌, List, length, slice_index_or, Option, Some, None}
use Rattle.std.specs.Bool.{xor}
use Rattle.dependency_graph.specs.declared.node.Base.{Base}
use Rattle.dependency_graph.specs.declared.node.Base.TheVariants as bases
use Rattle.dependency_graph.specs.declared.node.Node.{Node}
use Rattle.dependency_graph.specs.declared.node.Node.TheVariants.{Not, Xor, And}
use Rattle.dependency_graph.specs.declared.node.Sig.{Sig}
use Rattle.dependency_graph.specs.declared.node.Sig.TheVariants.{Const, Is}
use Rattle.dependency_graph.specs.Graphs.{IsKnownBase}
use Rattle.linear_forms.specs.Forms.{FormView, IsConstant, form_value}
use Rattle.product_sums.specs.Products.{IsDetermined, ProductsView, Respects}
use Rattle.claim_check.specs.Measures.{node_function}
use Rattle.circuit_verify.specs.Compared.{ComparedView, comparison}
use Rattle.circuit_verify.specs.Comparisons.{input_bits}
use Rattle.sum_verify.specs.inside.Forms.{IsFormOf, form_at}

-- ---- operands

-- the form of a base, where it is held
abbrev pub base_form : List FormView → List (Option FormView) → Base → Option FormView
base_form lines nodes (bases.Input i) = Some (form_at lines i)
base_form lines nodes (bases.Node k) = slice_index_or nodes k None

-- the variables determine each form that is held
pub record AreDeterminedBases (t : ProductsView) (lines : List FormView)
    (nodes : List (Option FormView)) : Type 0 where
  pub each : (base : Base) (f : FormView) → IsKnownBase (length lines) (length nodes) base
      → base_form lines nodes base ≡ Some f → IsDetermined t f

-- ---- one node

-- the form is the negation of one that is held
pub record IsNegation (held : Option FormView) (f : FormView) : Type 0 where
  pub operand : FormView
  pub is : held ≡ Some operand
  pub same : (atom : ℕ → Bool) → form_value atom f ≡ not (form_value atom operand)

-- the form joins two that are held
pub record IsJoined (join : Bool → Bool → Bool) (t : ProductsView)
    (left right : Option FormView) (f : FormView) : Type 0 where
  pub first : FormView
  pub second : FormView
  pub left_is : left ≡ Some first
  pub right_is : right ≡ Some second
  pub same : (atom : ℕ → Bool) → Respects t atom
      → form_value atom f ≡ join (form_value atom first) (form_value atom second)

-- the form is that of a node, by those of its operands
abbrev pub IsNodeForm : ProductsView → List FormView → List (Option FormView) → Node → FormView
    → Type 0
IsNodeForm t lines nodes (Not a) f = IsNegation (base_form lines nodes a) f
IsNodeForm t lines nodes (Xor a b) f =
    IsJoined xor t (base_form lines nodes a) (base_form lines nodes b) f
IsNodeForm t lines nodes (And a b) f =
    IsJoined (λ x y. x && y) t (base_form lines nodes a) (base_form lines nodes b) f

-- ---- nodes

-- Each form that is held for one of the first nodes is that node's. Some may have been let go.
pub record HoldsNodes (v : ComparedView) (t : ProductsView) (count : ℕ)
    (nodes : List (Option FormView)) : Type 0 where
  pub one_each : length nodes ≡ count
  pub each : (k : ℕ) (f : FormView) → k < count → slice_index_or nodes k None ≡ Some f
      → IsFormOf (comparison v) t f
      (λ bits. node_function v.graph k (input_bits (comparison v) bits))

-- some forms may have been let go
pub record KeepsForms (old now : List (Option FormView)) : Type 0 where
  pub one_each : length now ≡ length old
  pub each : (k : ℕ) (f : FormView) → slice_index_or now k None ≡ Some f
      → slice_index_or old k None ≡ Some f

-- ---- outputs

-- the form of a constant or of a base that is held
abbrev pub IsSigForm : List FormView → List (Option FormView) → Sig → FormView → Type 0
IsSigForm lines nodes (Const bit) f = IsConstant bit f
IsSigForm lines nodes (Is base) f = base_form lines nodes base ≡ Some f
