-- Forms that stand for bits of a comparison, whatever the bits of its variables are.
use Rattle.std.specs.Prelude.{◌≡◌, ℕ, ◌<◌, Bool, false, List, length, map, take, slice_index_or, Option, Some, None, IfSome}
use Rattle.list_facts.specs.Bits.{bit_of}
use Rattle.linear_forms.specs.Bases.{no_form}
use Rattle.linear_forms.specs.Forms.{FormView, form_value}
use Rattle.product_sums.specs.Products.{IsDetermined, ProductsView, Respects}
use Rattle.claim_check.specs.Settled.{settled_outputs}
use Rattle.mct_circuit.specs.Gates.{GateView, after_gate, line_map}
use Rattle.circuit_verify.specs.Compared.{ComparedView, comparison}
use Rattle.circuit_verify.specs.Comparisons.{AreBitsFor, Comparison, input_bits, start_on, variables_in}

-- ---- valuations

-- the atoms give the variables these bits
pub record GivesBits (q : Comparison) (bits : List Bool) (atom : ℕ → Bool) : Type 0 where
  pub are : AreBitsFor q bits
  pub given : (k : ℕ) → k < variables_in q → atom k ≡ bit_of bits k

-- and each atom that stands for a product has its value
pub record IsUnder (q : Comparison) (t : ProductsView) (bits : List Bool)
    (atom : ℕ → Bool) : Type 0 where
  pub gives : GivesBits q bits atom
  pub respects : Respects t atom

-- the atoms that stand for no product are the variables
abbrev pub HasVariables : Comparison → ProductsView → Type 0
HasVariables q t = t.given ≡ variables_in q

-- ---- forms

-- the form stands for this bit
pub record IsFormOf (q : Comparison) (t : ProductsView) (f : FormView)
    (bit : List Bool → Bool) : Type 0 where
  pub same : (bits : List Bool) (atom : ℕ → Bool) → IsUnder q t bits atom
      → form_value atom f ≡ bit bits

-- so many forms stand for these bits, one for each
pub record AreFormsOf (q : Comparison) (t : ProductsView) (count : ℕ) (forms : List FormView)
    (value : List Bool → List Bool) : Type 0 where
  pub one_each : length forms ≡ count
  pub same : (bits : List Bool) (atom : ℕ → Bool) → IsUnder q t bits atom
      → map (form_value atom) forms ≡ value bits

-- the forms of the lines before the gates, and behind them
abbrev pub AreFormsBefore : ComparedView → ProductsView → List FormView → Type 0
AreFormsBefore v t lines =
    AreFormsOf (comparison v) t v.circuit.lines lines (start_on (comparison v))

abbrev pub AreFormsBehind : ComparedView → ProductsView → List FormView → Type 0
AreFormsBehind v t lines =
    AreFormsOf (comparison v) t v.circuit.lines lines
    (λ bits. line_map v.circuit.gates (start_on (comparison v) bits))

-- the forms of the outputs of the settled graph
abbrev pub AreOutputForms : ComparedView → ProductsView → List FormView → Type 0
AreOutputForms v t outputs =
    AreFormsOf (comparison v) t (length v.graph.outputs) outputs
    (λ bits. settled_outputs v.graph (input_bits (comparison v) bits))

abbrev pub form_at : List FormView → ℕ → FormView
form_at forms i = slice_index_or forms i no_form

-- the variables determine each of the forms
pub record AreDetermined (t : ProductsView) (forms : List FormView) : Type 0 where
  pub each : (i : ℕ) → i < length forms → IsDetermined t (form_at forms i)

-- ---- lines before the gates

-- the bit of an atom, 0 where there is none
abbrev pub atom_bit : List Bool → Option ℕ → Bool
atom_bit bits (Some atom) = bit_of bits atom
atom_bit bits None = false

-- a line holds the bit of this atom before the gates
pub record IsStartAtom (q : Comparison) (line : ℕ) (atom : Option ℕ) : Type 0 where
  pub low : IfSome atom (λ a. a < variables_in q)
  pub same : (bits : List Bool) → AreBitsFor q bits
      → bit_of (start_on q bits) line ≡ atom_bit bits atom

-- the form stands for what the line holds before the gates
pub record IsStartForm (q : Comparison) (line : ℕ) (f : FormView) : Type 0 where
  pub same : (bits : List Bool) (atom : ℕ → Bool) → GivesBits q bits atom
      → form_value atom f ≡ bit_of (start_on q bits) line

-- the forms stand for what the first lines hold before the gates
pub record AreStartForms (q : Comparison) (count : ℕ) (lines : List FormView) : Type 0 where
  pub one_each : length lines ≡ count
  pub same : (bits : List Bool) (atom : ℕ → Bool) → GivesBits q bits atom
      → map (form_value atom) lines ≡ take count (start_on q bits)

-- ---- lines behind a gate

-- the form stands for what the line holds behind the gate, where the lines have forms
pub record IsFlipped (t : ProductsView) (lines : List FormView) (gate : GateView) (line : ℕ)
    (f : FormView) : Type 0 where
  pub same : (atom : ℕ → Bool) → Respects t atom
      → form_value atom f ≡ bit_of (after_gate gate (map (form_value atom) lines)) line
