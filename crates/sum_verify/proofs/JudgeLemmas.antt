-- What the forms of the lines say of a circuit.
use Rattle.std.proofs.Common.{◌≡◌, ℕ, ◌+◌, ◌-◌, ◌<◌, ◌≤◌, ◌⊎◌, inl, inr, Bool, false, List, ◌++◌, length, take, sym, ap, ap₂, ◌∙◌, subst, arith}
use Rattle.std.proofs.Common.{length-append}
use Rattle.std.specs.Bool.{xor}
use Rattle.std.proofs.lemmas.List.{ext_get_or, get_or-append_right, get_or_append_left, length-map, length-take-le}
use Rattle.std.proofs.lemmas.Simd.{get_or-zip2}
use Rattle.list_facts.specs.Bits.{bit_of, zeros}
use Rattle.linear_forms.specs.Forms.{FormView, IsSum}
use Rattle.product_sums.specs.Products.{HasValuations, ProductsView}
use Rattle.claim_check.specs.Settled.{settled_outputs, settled_value}
use Rattle.mct_circuit.specs.Gates.{AreGatesOn, line_map}
use Rattle.mct_circuit.proofs.ReversalLemmas.{length-line_map}
use Rattle.circuit_plans.specs.declared.roles.Placing.{Placing}
use Rattle.circuit_plans.specs.declared.roles.Placing.TheVariants.{InPlace}
use Rattle.circuit_verify.specs.Compared.{ComparedView, IsReady, comparison}
use Rattle.circuit_verify.specs.Comparisons.{AreBitsFor, Comparison, IsAdded, borrowed_bits, input_bits, inputs_in, lines_for, output_bits}
use Rattle.circuit_verify.specs.Comparisons.{output_lines, put_by, start_on, wanted_on, wanted_ports, work_lines}
use Rattle.circuit_verify.specs.Verdicts.{FillsInputs, IsRight, IsVerified}
use Rattle.circuit_verify.proofs.HeldLemmas.{lines_added, put_added}
use Rattle.circuit_verify.proofs.StepLemmas.{length-held, length-output_bits, length-ports, length-wanted, length-wanted_bits, wanted_bit, wanted_bits}
use Rattle.circuit_verify.proofs.VerdictLemmas.{agrees_where, length-start_on}
use Rattle.sum_cuts.specs.Cuts.{AreEqualSums}
use Rattle.sum_verify.specs.inside.Forms.{AreFormsOf, HasVariables, IsFormOf, IsStartForm, IsUnder, form_at}
use Rattle.sum_verify.proofs.FormLemmas.{form_in, form_same}

-- ---- lines as they should be

-- those of the inputs and the outputs first, and then the others
ports_first : (v : ComparedView) (bits : List Bool) (line : ℕ) → line < length (wanted_ports (comparison v) bits)
    → bit_of (wanted_on (comparison v) bits) line ≡ bit_of (wanted_ports (comparison v) bits) line
ports_first v bits line low =
    let q = comparison v in
    get_or_append_left (wanted_ports q bits) (zeros (work_lines q) ++ borrowed_bits q bits) false line low

-- where outputs are added, these are the inputs, and behind them the sums
added_first : (v : ComparedView) (bits : List Bool) (line : ℕ) → IsAdded v.placing → AreBitsFor (comparison v) bits
    → line < inputs_in (comparison v) + length v.graph.outputs
    → bit_of (wanted_on (comparison v) bits) line ≡ bit_of (take (inputs_in (comparison v)) bits ++ wanted_bits v bits) line
added_first v bits line is size low =
    let q = comparison v in
    let n : ℕ = inputs_in q in
    let input : List Bool = take n bits in
    let out : List Bool = wanted_bits v bits in
    let put : wanted_ports q bits ≡ input ++ out = put_added v.placing input (output_bits q bits) (settled_outputs v.graph input) is in
    let front : length input ≡ n = length-take-le n bits (omega (arith, size)) in
    ports_first v bits line (omega (arith, low, ap (λ (z : List Bool). length z) put, length-append input out, front, length-wanted_bits v bits is size))
    ∙ ap (λ (z : List Bool). bit_of z line) put

-- an output line has its output added
added_bit : (v : ComparedView) (bits : List Bool) (k : ℕ) → IsAdded v.placing → AreBitsFor (comparison v) bits → k < length v.graph.outputs
    → bit_of (wanted_on (comparison v) bits) (inputs_in (comparison v) + k)
    ≡ xor (bit_of (start_on (comparison v) bits) (inputs_in (comparison v) + k))
    (bit_of (settled_outputs v.graph (input_bits (comparison v) bits)) k)
added_bit v bits k is size low =
    let q = comparison v in
    let n : ℕ = inputs_in q in
    let held : List Bool = output_bits q bits in
    let out : List Bool = settled_outputs v.graph (input_bits q bits) in
    let rest : List Bool = zeros (work_lines q) ++ borrowed_bits q bits in
    let wide : length held ≡ length v.graph.outputs = length-held v bits is size in
    let many : length out ≡ length v.graph.outputs = length-map v.graph.outputs (settled_value v.graph (input_bits q bits)) in
    let front : length (take n bits) ≡ n = length-take-le n bits (omega (arith, size)) in
    let here : (n + k) - n ≡ k = omega arith in
    sym (wanted_bit v bits k is size low)
    ∙ get_or-zip2 xor held out k false false false (omega (arith, low, wide)) (omega (arith, low, many))
    ∙ ap (λ (b : Bool). xor b (bit_of out k))
    (sym (get_or-append_right (take n bits) (held ++ rest) n (n + k) false front (omega arith)
    ∙ ap (bit_of (held ++ rest)) here
    ∙ get_or_append_left held rest false k (omega (arith, low, wide))))

-- and an input line is as it was
kept_bit : (v : ComparedView) (bits : List Bool) (line : ℕ) → IsAdded v.placing → AreBitsFor (comparison v) bits → line < inputs_in (comparison v)
    → bit_of (wanted_on (comparison v) bits) line ≡ bit_of (start_on (comparison v) bits) line
kept_bit v bits line is size low =
    let q = comparison v in
    let n : ℕ = inputs_in q in
    let rest : List Bool = zeros (work_lines q) ++ borrowed_bits q bits in
    let front : length (take n bits) ≡ n = length-take-le n bits (omega (arith, size)) in
    added_first v bits line is size (omega (arith, low))
    ∙ get_or_append_left (take n bits) (wanted_bits v bits) false line (omega (arith, low, front))
    ∙ sym (get_or_append_left (take n bits) (output_bits q bits ++ rest) false line (omega (arith, low, front)))

-- every line behind the output lines is as it was
late_bit : (v : ComparedView) → IsReady v → (bits : List Bool) (line : ℕ) → AreBitsFor (comparison v) bits
    → inputs_in (comparison v) + output_lines (comparison v) ≤ line
    → bit_of (wanted_on (comparison v) bits) line ≡ bit_of (start_on (comparison v) bits) line
late_bit v ready bits line size late =
    let q = comparison v in
    let n : ℕ = inputs_in q in
    let o : ℕ = output_lines q in
    let held : List Bool = output_bits q bits in
    let rest : List Bool = zeros (work_lines q) ++ borrowed_bits q bits in
    let there : line - (n + o) ≡ (line - n) - o = omega (arith, late) in
    get_or-append_right (wanted_ports q bits) rest (n + o) line false (length-ports v ready bits size) late
    ∙ ap (bit_of rest) there
    ∙ sym (get_or-append_right (take n bits) (held ++ rest) n line false (length-take-le n bits (omega (arith, size))) (omega (arith, late))
    ∙ get_or-append_right held rest o (line - n) false (length-output_bits q bits size) (omega (arith, late)))

-- the form of a line behind the output lines
pub wanted_late : (v : ComparedView) → IsReady v → (t : ProductsView) (line : ℕ) (f : FormView)
    → inputs_in (comparison v) + output_lines (comparison v) ≤ line → IsStartForm (comparison v) line f
    → IsFormOf (comparison v) t f (λ bits. bit_of (wanted_on (comparison v) bits) line)
wanted_late v ready t line f late is = record {
  same = λ bits atom under. is.same bits atom under.gives ∙ sym (late_bit v ready bits line under.gives.are late);
}

-- where outputs are added, of any line that is no output line
pub wanted_as_start : (v : ComparedView) → IsReady v → (t : ProductsView) (line : ℕ) (f : FormView) → IsAdded v.placing
    → (line < inputs_in (comparison v)) ⊎ (inputs_in (comparison v) + length v.graph.outputs ≤ line) → IsStartForm (comparison v) line f
    → IsFormOf (comparison v) t f (λ bits. bit_of (wanted_on (comparison v) bits) line)
wanted_as_start v ready t line f added (inl low) is = record {
  same = λ bits atom under. is.same bits atom under.gives ∙ sym (kept_bit v bits line added under.gives.are low);
}
wanted_as_start v ready t line f added (inr late) is =
    wanted_late v ready t line f (omega (arith, late, lines_added v.placing (inputs_in (comparison v)) (length v.graph.outputs) added)) is

-- and of one that is
pub wanted_as_sum : (v : ComparedView) (t : ProductsView) (outputs : List FormView) (line : ℕ) (start f : FormView) → IsAdded v.placing
    → inputs_in (comparison v) ≤ line → line - inputs_in (comparison v) < length v.graph.outputs → IsStartForm (comparison v) line start
    → AreFormsOf (comparison v) t (length v.graph.outputs) outputs (λ bits. settled_outputs v.graph (input_bits (comparison v) bits))
    → IsSum start (form_at outputs (line - inputs_in (comparison v))) f
    → IsFormOf (comparison v) t f (λ bits. bit_of (wanted_on (comparison v) bits) line)
wanted_as_sum v t outputs line start f added late low is are sum = record {
  same = λ bits atom under.
      let q = comparison v in
      let k : ℕ = line - inputs_in q in
      let here : inputs_in q + k ≡ line = omega (arith, late) in
      sum atom
      ∙ ap₂ xor
      (is.same bits atom under.gives ∙ ap (bit_of (start_on q bits)) (sym here))
      ((form_in q t (length v.graph.outputs) k outputs (λ z. settled_outputs v.graph (input_bits q z)) are low).same bits atom under)
      ∙ sym (added_bit v bits k added under.gives.are low)
      ∙ ap (bit_of (wanted_on q bits)) here;
}

-- in place the form of an input line or an output line is that of its output
in_place_bit : (v : ComparedView) (bits : List Bool) (line : ℕ) → v.placing ≡ InPlace → line < length v.graph.outputs
    → bit_of (wanted_on (comparison v) bits) line ≡ bit_of (settled_outputs v.graph (input_bits (comparison v) bits)) line
in_place_bit v bits line is low =
    let q = comparison v in
    let out : List Bool = settled_outputs v.graph (input_bits q bits) in
    let put : wanted_ports q bits ≡ out = ap (λ (p : Placing). put_by p (input_bits q bits) (output_bits q bits) out) is in
    let many : length out ≡ length v.graph.outputs = length-map v.graph.outputs (settled_value v.graph (input_bits q bits)) in
    ports_first v bits line (omega (arith, low, ap (λ (z : List Bool). length z) put, many)) ∙ ap (λ (z : List Bool). bit_of z line) put

pub wanted_in_place : (v : ComparedView) (t : ProductsView) (outputs : List FormView) (line : ℕ) → v.placing ≡ InPlace
    → line < length v.graph.outputs
    → AreFormsOf (comparison v) t (length v.graph.outputs) outputs (λ bits. settled_outputs v.graph (input_bits (comparison v) bits))
    → IsFormOf (comparison v) t (form_at outputs line) (λ bits. bit_of (wanted_on (comparison v) bits) line)
wanted_in_place v t outputs line is low are =
    let q = comparison v in
    form_same q t (form_at outputs line) (λ bits. bit_of (settled_outputs v.graph (input_bits q bits)) line)
    (λ bits. bit_of (wanted_on q bits) line) (λ bits size. sym (in_place_bit v bits line is low))
    (form_in q t (length v.graph.outputs) line outputs (λ z. settled_outputs v.graph (input_bits q z)) are low)

-- and every line from the number of outputs on is behind them
pub late_in_place : (v : ComparedView) → IsReady v → (line : ℕ) → v.placing ≡ InPlace → length v.graph.outputs ≤ line
    → inputs_in (comparison v) + output_lines (comparison v) ≤ line
late_in_place v ready line is late =
    let n : ℕ = inputs_in (comparison v) in
    let o : ℕ = length v.graph.outputs in
    let fills : n ≤ o = subst (λ (p : Placing). FillsInputs p n o) is ready.comparable.outputs in
    omega (arith, late, fills, ap (λ (p : Placing). lines_for p n o) is)

-- ---- verdicts

-- some valuation of the atoms gives the variables these bits
some_valuation : (q : Comparison) (t : ProductsView) (bits : List Bool) → HasVariables q t → HasValuations t → AreBitsFor q bits
    → (atom : ℕ → Bool) × IsUnder q t bits atom
some_valuation q t bits variables has are =
    let found = has (bit_of bits) in (
      found.0,
      record {
        gives = record { are = are; given = λ k low. sym (found.2 k (omega (arith, low, variables))) };
        respects = found.1;
      },
    )

-- a line whose form equals that which it should have is right
pub right_line : (v : ComparedView) (t : ProductsView) (lines : List FormView) (line : ℕ) (f : FormView) → HasVariables (comparison v) t → HasValuations t
    → AreFormsOf (comparison v) t v.circuit.lines lines (λ bits. line_map v.circuit.gates (start_on (comparison v) bits)) → line < v.circuit.lines
    → AreEqualSums t (form_at lines line) f → IsFormOf (comparison v) t f (λ bits. bit_of (wanted_on (comparison v) bits) line) → IsRight (comparison v) line
right_line v t lines line f variables has are low same wanted bits looks =
    let q = comparison v in
    let some = some_valuation q t bits variables has looks.0 in
    sym ((form_in q t v.circuit.lines line lines (λ z. line_map v.circuit.gates (start_on q z)) are low).same bits some.0 some.1)
    ∙ same some.0 some.1.respects
    ∙ wanted.same bits some.0 some.1

-- where all lines are right, the circuit agrees
pub verified : (v : ComparedView) → IsReady v → ((line : ℕ) → line < v.circuit.lines → IsRight (comparison v) line) → IsVerified (comparison v)
verified v ready right = record {
  comparable = ready.comparable;
  agrees = agrees_where (comparison v) (λ input. length-map v.graph.outputs (settled_value v.graph input)) ready.comparable.outputs (λ bits looks.
      let q = comparison v in
      let size : AreBitsFor q bits = looks.0 in
      let start : List Bool = start_on q bits in
      let long : length start ≡ v.circuit.lines = length-start_on q bits ready.comparable.lines size in
      let ended : length (line_map v.circuit.gates start) ≡ v.circuit.lines =
      length-line_map v.circuit.gates start (subst (λ (n : ℕ). AreGatesOn n v.circuit.gates) (sym long) ready.gates) ∙ long in
      ext_get_or false (line_map v.circuit.gates start) (wanted_on q bits) (ended ∙ sym (length-wanted v ready bits size))
      (λ line low. right line (omega (arith, low, ended)) bits looks));
}
