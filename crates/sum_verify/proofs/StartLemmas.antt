-- What the lines hold before the gates.
use Rattle.std.proofs.Common.{◌≡◌, ℕ, ◌+◌, ◌-◌, ◌<◌, ◌≤◌, inl, inr, Bool, false, List, [], ◌∷◌, ◌++◌, length, take, drop, Some, None, refl, sym, ap, ap₂, ◌∙◌}
use Rattle.std.proofs.Common.{subst, arith, length-append}
use Rattle.std.proofs.lemmas.Bool.{cases_lt}
use Rattle.std.proofs.lemmas.List.{get_or-append_right, get_or-replicate, get_or_append_left, length-replicate, length-take-le, map-append}
use Rattle.std.proofs.lemmas.List.{take_all, take_more}
use Rattle.list_facts.specs.Bits.{bit_of, zeros}
use Rattle.linear_forms.specs.Forms.{FormView, IsAtom, IsConstant, form_value}
use Rattle.product_sums.specs.Products.{ProductsView}
use Rattle.circuit_plans.specs.declared.roles.Placing.{Placing}
use Rattle.circuit_plans.specs.declared.roles.Placing.TheVariants.{Added, InPlace}
use Rattle.circuit_plans.specs.declared.roles.Start.TheVariants.{Any, Zero}
use Rattle.circuit_verify.specs.Comparisons.{Comparison, borrowed_bits, held_by, inputs_in, output_bits, output_lines, output_variables, start_on}
use Rattle.circuit_verify.specs.Comparisons.{work_lines}
use Rattle.circuit_verify.specs.Verdicts.{HasEnoughLines}
use Rattle.circuit_verify.proofs.AskLemmas.{borrowed_bit, input_bit, output_bit}
use Rattle.circuit_verify.proofs.StepLemmas.{length-output_bits}
use Rattle.circuit_verify.proofs.VerdictLemmas.{length-start_on}
use Rattle.sum_verify.specs.inside.Forms.{AreFormsOf, AreStartForms, IsFormOf, IsStartAtom, IsStartForm}

-- ---- atoms

abbrev variables_of : Comparison → ℕ
variables_of q = output_variables q.placing (output_lines q)

-- an input line, and an output line that has a variable
pub front_atom : (q : Comparison) (line : ℕ) → line < inputs_in q + variables_of q → IsStartAtom q line (Some line)
front_atom q line low = record {
  low = omega (arith, low);
  same = λ bits size. elim (cases_lt line (inputs_in q)) as (λ _. bit_of (start_on q bits) line ≡ bit_of bits line) [
    | inl input ↦ input_bit q bits line size input
    | inr late ↦
        let k : ℕ = line - inputs_in q in
        let is : inputs_in q + k ≡ line = omega (arith, late) in
        subst (λ (l : ℕ). bit_of (start_on q bits) l ≡ bit_of bits l) is (output_bit q bits k size (omega (arith, low, late)))
  ];
}

pub borrowed_atom : (q : Comparison) (line : ℕ) → HasEnoughLines q → q.circuit.lines - q.borrow ≤ line → line < q.circuit.lines
    → IsStartAtom q line (Some ((line - (q.circuit.lines - q.borrow)) + (inputs_in q + variables_of q)))
borrowed_atom q line enough late low =
    let v : ℕ = variables_of q in
    let k : ℕ = line - (q.circuit.lines - q.borrow) in
    let is : inputs_in q + (output_lines q + (work_lines q + k)) ≡ line = omega (arith, late, low, enough) in
    let atom : inputs_in q + (v + k) ≡ k + (inputs_in q + v) = omega arith in
    record {
      low = omega (arith, late, low, enough);
      same = λ bits size.
          ap (bit_of (start_on q bits)) (sym is) ∙ borrowed_bit q bits k size ∙ ap (bit_of bits) atom;
    }

-- its atom by what was read
pub borrowed_atom_is : (q : Comparison) (line lines borrow inputs variables : ℕ) → lines ≡ q.circuit.lines → borrow ≡ q.borrow → inputs ≡ inputs_in q
    → variables ≡ variables_of q → HasEnoughLines q → lines - borrow ≤ line → line < q.circuit.lines
    → IsStartAtom q line (Some ((line - (lines - borrow)) + (inputs + variables)))
borrowed_atom_is q line lines borrow inputs variables lines_are borrow_is inputs_are variables_are enough late low =
    let same : (line - (q.circuit.lines - q.borrow)) + (inputs_in q + variables_of q) ≡ (line - (lines - borrow)) + (inputs + variables) =
    omega (arith, lines_are, borrow_is, inputs_are, variables_are) in
    subst (λ (n : ℕ). IsStartAtom q line (Some n)) same (borrowed_atom q line enough (omega (arith, late, lines_are, borrow_is)) low)

-- a place among zeros
among_zeros : (held rest : List Bool) (outputs work k : ℕ) → length held ≡ outputs → outputs ≤ k → k < outputs + work
    → bit_of (held ++ (zeros work ++ rest)) k ≡ false
among_zeros held rest outputs work k size late low =
    get_or-append_right held (zeros work ++ rest) outputs k false size late
    ∙ get_or_append_left (zeros work) rest false (k - outputs) (omega (arith, late, low, length-replicate work false))
    ∙ get_or-replicate work (k - outputs) false false (omega (arith, late, low))

zeros_behind : (lines work k : ℕ) (rest : List Bool) → k < lines + work → bit_of (zeros lines ++ (zeros work ++ rest)) k ≡ false
zeros_behind lines work k rest low =
    let size : length (zeros lines) ≡ lines = length-replicate lines false in
    elim (cases_lt k lines) as (λ _. bit_of (zeros lines ++ (zeros work ++ rest)) k ≡ false) [
      | inl early ↦
          get_or_append_left (zeros lines) (zeros work ++ rest) false k (omega (arith, early, size))
          ∙ get_or-replicate lines k false false early
      | inr behind ↦ among_zeros (zeros lines) rest lines work k size behind low
    ]

idle_behind : (placing : Placing) (lines work k : ℕ) (behind rest : List Bool) → length (held_by placing lines behind) ≡ lines
    → output_variables placing lines ≤ k → k < lines + work → bit_of (held_by placing lines behind ++ (zeros work ++ rest)) k ≡ false
idle_behind (Added Any) lines work k behind rest size late low = among_zeros (take lines behind) rest lines work k size late low
idle_behind (Added Zero) lines work k behind rest size late low = zeros_behind lines work k rest low
idle_behind InPlace lines work k behind rest size late low = zeros_behind lines work k rest low

-- a line that holds 0
pub no_atom : (q : Comparison) (line : ℕ) → HasEnoughLines q → inputs_in q + variables_of q ≤ line → line < q.circuit.lines - q.borrow
    → IsStartAtom q line None
no_atom q line enough late low = record {
  low = tt;
  same = λ bits size.
      let n : ℕ = inputs_in q in
      let front : length (take n bits) ≡ n = length-take-le n bits (omega (arith, size)) in
      get_or-append_right (take n bits) (output_bits q bits ++ (zeros (work_lines q) ++ borrowed_bits q bits)) n line false front (omega (arith, late))
      ∙ idle_behind q.placing (output_lines q) (work_lines q) (line - n) (drop n bits) (borrowed_bits q bits) (length-output_bits q bits size)
      (omega (arith, late)) (omega (arith, late, low, enough));
}

-- ---- forms

pub atom_stands : (q : Comparison) (line atom : ℕ) (f : FormView) → IsStartAtom q line (Some atom) → IsAtom atom f → IsStartForm q line f
atom_stands q line atom f start is = record {
  same = λ bits value gives. is value ∙ gives.given atom start.low ∙ sym (start.same bits gives.are);
}

pub idle_stands : (q : Comparison) (line : ℕ) (f : FormView) → IsStartAtom q line None → IsConstant false f → IsStartForm q line f
idle_stands q line f start is = record { same = λ bits value gives. is value ∙ sym (start.same bits gives.are) }

pub start_stands : (q : Comparison) (t : ProductsView) (line : ℕ) (f : FormView) → IsStartForm q line f
    → IsFormOf q t f (λ bits. bit_of (start_on q bits) line)
start_stands q t line f is = record { same = λ bits atom under. is.same bits atom under.gives }

pub starts_none : (q : Comparison) → AreStartForms q 0 []
starts_none q = record { one_each = omega arith; same = λ bits atom gives. refl }

pub starts_more : (q : Comparison) (count : ℕ) (lines : List FormView) (f : FormView) → HasEnoughLines q → count < q.circuit.lines
    → AreStartForms q count lines → IsStartForm q count f → AreStartForms q (count + 1) (lines ++ f ∷ [])
starts_more q count lines f enough low are is = record {
  one_each = length-append lines (f ∷ []) ∙ omega (arith, are.one_each);
  same = λ bits atom gives.
      map-append (form_value atom) lines (f ∷ [])
      ∙ ap₂ (λ (z : List Bool) (b : Bool). z ++ b ∷ []) (are.same bits atom gives) (is.same bits atom gives)
      ∙ sym (take_more (start_on q bits) count false (omega (arith, low, length-start_on q bits enough gives.are)));
}

pub starts_stand : (q : Comparison) (t : ProductsView) (lines : List FormView) → HasEnoughLines q → AreStartForms q q.circuit.lines lines
    → AreFormsOf q t q.circuit.lines lines (start_on q)
starts_stand q t lines enough are = record {
  one_each = are.one_each;
  same = λ bits atom under.
      are.same bits atom under.gives
      ∙ take_all q.circuit.lines (start_on q bits) (omega (arith, length-start_on q bits enough under.gives.are));
}
