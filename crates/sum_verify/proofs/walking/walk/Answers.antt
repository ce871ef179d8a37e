use Rattle.std.proofs.Common.{◌≡◌, ◌<◌, ◌+◌, List, get_or, length, set, take, sym, subst, ap, arith, ◌∙◌}
use Rattle.mct_circuit.specs.Gates.{GateView, line_map}
use Rattle.product_sums.specs.Products.{Extends, ProductsView}
use Rattle.product_sums.proofs.TableLemmas.{extends_further}
use Rattle.circuit_verify.specs.Compared.{ComparedView, comparison}
use Rattle.circuit_verify.specs.Comparisons.{start_on}
use Rattle.circuit_verify.proofs.StepLemmas.{gate_at, gate_placed, target_inside}
use Rattle.sum_verify.specs.inside.Forms.{AreFormsOf}
use Rattle.sum_verify.proofs.FlipLemmas.{all_gates, lines_next}
use Rattle.sum_verify.proofs.FormLemmas.{all_determined, variables_later}
use Rattle.sum_verify.proofs.walking.walk.Goals as goal
use Rattle.sum_verify.proofs.walking.walk.Goals.{After-target_of-target}

-- the gate at hand is that of the circuit
here : (c : After-target_of-target) → (c.loop-gate.gate-index < length c.args.compared.now.circuit.gates)
    × (get_or c.args.compared.now.circuit.gates c.loop-gate.gate-index c.gate-item.result ≡ c.gate-item.result)
here c =
    let v = c.args.compared.now in
    let gates = c.gates-gate-items.ensures.gates ∙ ap (λ (w : ComparedView). w.circuit.gates) c.compared.view_is in (
      omega (arith, c.loop-gate-test.true, ap (λ (gs : List GateView). length gs) gates),
      gate_at c.gates-gate-items.result.now v.circuit.gates c.loop-gate.gate-index c.gate-item.result gates c.gate-item.is,
    )

low : (c : After-target_of-target) → c.target_of-target.result < length c.loop-gate.lines
low c =
    let v = c.args.compared.now in
    let is = here c in
    let on = gate_placed v.circuit.lines v.circuit.gates c.loop-gate.gate-index c.gate-item.result c.variables.ensures.ready.gates is.0 is.1 in
    omega (
      arith,
      target_inside v.circuit.lines c.gate-item.result c.target_of-target.result on c.target_of-target.ensures,
      (c.loop-gate.invariant.1).one_each,
    )

pub flipped-requires-clause-determined : goal.flipped-requires-clause-determined
flipped-requires-clause-determined c =
    let q = comparison c.args.compared.now in
    all_determined q c.loop-gate.products c.args.compared.now.circuit.lines c.loop-gate.lines
    (λ bits. line_map (take c.loop-gate.gate-index q.circuit.gates) (start_on q bits))
    (variables_later q c.args.products.now c.loop-gate.products c.loop-gate.invariant.0 c.requires.variables) c.loop-gate.invariant.1

pub bounds-lines-target : goal.bounds-lines-target
bounds-lines-target c = low (goal.at.bounds-lines-target c).After-target_of-target

pub bounds-lines-target-in-loop-gate : goal.bounds-lines-target-in-loop-gate
bounds-lines-target-in-loop-gate c = low (goal.at.bounds-lines-target-in-loop-gate c).After-target_of-target

pub loop-gate-preserved : goal.loop-gate-preserved
loop-gate-preserved c =
    let there = (goal.at.loop-gate-preserved c).After-target_of-target in
    let q = comparison c.args.compared.now in
    let i = c.loop-gate.gate-index in
    let target = c.target_of-target.result in
    let old = c.loop-gate.products in
    let now = c.flipped.new.products in
    let same = sym (c.hold.ensures ∙ c.let_go.ensures) in
    let is = here there in (
      subst (Extends c.args.products.now) same
          (extends_further c.args.products.now old now c.loop-gate.invariant.0 c.in_ok-form.ensures.extends),
      subst (λ (t : ProductsView). AreFormsOf q t q.circuit.lines (set c.loop-gate.lines target c.in_ok-form.form)
          (λ bits. line_map (take (i + 1) q.circuit.gates) (start_on q bits))) same
          (lines_next q old now c.loop-gate.lines i target c.in_ok-form.form c.gate-item.result is.0 is.1 c.target_of-target.ensures (low there)
          c.in_ok-form.ensures.extends c.in_ok-form.ensures.flipped c.loop-gate.invariant.1),
    )

pub returns-clause-ends : goal.returns-clause-ends
returns-clause-ends c =
    let gates = c.gates-gate-items.ensures.gates ∙ ap (λ (w : ComparedView). w.circuit.gates) c.compared.view_is in
    all_gates (comparison c.args.compared.now) c.loop-gate.products c.loop-gate.lines c.loop-gate.gate-index
    (omega (arith, c.loop-gate-test.false, ap (λ (gs : List GateView). length gs) gates)) c.loop-gate.invariant.1
