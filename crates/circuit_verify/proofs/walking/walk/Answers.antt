use Rattle.std.proofs.Common.{◌≡◌, ◌<◌, ℕ, get_or, length, sym, subst, ap, arith, ◌∙◌}
use Rattle.mct_circuit.specs.Gates.{IsGateOn}
use Rattle.revc_base.proofs.ResultLemmas.{one_fault, passes_on}
use Rattle.circuit_verify.specs.declared.fault.VerifyFault.TheVariants as faults
use Rattle.circuit_verify.specs.Verdicts.{IsVerifyFault}
use Rattle.circuit_verify.specs.Compared.{ComparedView, comparison}
use Rattle.circuit_verify.specs.inside.Numbers.{line_function_of}
use Rattle.circuit_verify.proofs.AskLemmas.{IsAnswered}
use Rattle.circuit_verify.proofs.LineLemmas.{lines_next}
use Rattle.circuit_verify.proofs.StepLemmas.{all_gates, gate_answered, gate_at, gate_placed, many_lines, refused_room, target_inside}
use Rattle.circuit_verify.proofs.walking.walk.Goals as goal
use Rattle.circuit_verify.proofs.walking.walk.Goals.{After-flipped_line, After-target_of-target}

-- the gate at hand is that of the circuit
here : (c : After-target_of-target) → (c.loop-gate.gate-index < length c.args.compared.now.circuit.gates)
    × (get_or c.args.compared.now.circuit.gates c.loop-gate.gate-index c.gate-item.result ≡ c.gate-item.result)
here c =
    let v = c.args.compared.now in
    let gates = c.gates-gate-items.ensures.gates ∙ ap (λ (w : ComparedView). w.circuit.gates) c.compared.view_is in (
      omega (arith, c.loop-gate-test.true, ap length gates),
      gate_at c.gates-gate-items.result.now v.circuit.gates c.loop-gate.gate-index c.gate-item.result gates c.gate-item.is,
    )

on : (c : After-target_of-target) → IsGateOn c.args.compared.now.circuit.lines c.gate-item.result
on c =
    let v = c.args.compared.now in
    let is = here c in gate_placed v.circuit.lines v.circuit.gates c.loop-gate.gate-index c.gate-item.result c.variables.ensures.ready.gates is.0 is.1

many : (c : After-target_of-target) → length c.loop-gate.lines ≡ c.args.compared.now.circuit.lines
many c =
    c.loop-gate.auto.lines
    ∙ many_lines (comparison c.args.compared.now) c.args.diagram.now.nodes c.args.lines.now c.variables.ensures.ready.comparable.lines c.requires.start

made : (c : After-flipped_line) → c.loop-gate.gate-index < length c.args.compared.now.circuit.gates
    → get_or c.args.compared.now.circuit.gates c.loop-gate.gate-index c.gate-item.result ≡ c.gate-item.result
    → IsAnswered (comparison c.args.compared.now) (line_function_of c.loop-gate.diagram.nodes c.loop-gate.lines c.gate-item.result c.target_of-target.result)
    c.args.diagram.now c.flipped_line.new.diagram
made c low at =
    gate_answered c.args.compared.now c.variables.ensures.ready c.loop-gate.lines c.loop-gate.gate-index c.target_of-target.result c.gate-item.result
    c.args.diagram.now c.loop-gate.diagram c.flipped_line.new.diagram c.flipped_line.result low at c.target_of-target.ensures c.loop-gate.invariant.1
    c.loop-gate.invariant.0 c.flipped_line.ensures

pub flipped_line-requires-clause-placed : goal.flipped_line-requires-clause-placed
flipped_line-requires-clause-placed c =
    let there = (goal.at.flipped_line-requires-clause-placed c).After-target_of-target in
    subst (λ (n : ℕ). IsGateOn n c.gate-item.result) (sym (many there)) (on there)

pub bounds-lines-target : goal.bounds-lines-target
bounds-lines-target c =
    let there = (goal.at.bounds-lines-target c).After-target_of-target in
    omega (
      arith,
      target_inside c.args.compared.now.circuit.lines c.gate-item.result c.target_of-target.result (on there) c.target_of-target.ensures,
      many there,
    )

pub returns-in_err-lines-clause-grows : goal.returns-in_err-lines-clause-grows
returns-in_err-lines-clause-grows c =
    let at = goal.at.returns-in_err-lines-clause-grows c in
    let is = here at.After-target_of-target in (made at.After-flipped_line is.0 is.1).grows

pub returns-in_err-lines-clause-refused : goal.returns-in_err-lines-clause-refused
returns-in_err-lines-clause-refused c =
    let at = goal.at.returns-in_err-lines-clause-refused c in
    let is = here at.After-target_of-target in
    passes_on (IsVerifyFault (comparison c.args.compared.now) c.flipped_line.new.diagram.limit) c.from_residual.result c.from_residual.ensures.1
    ((made at.After-flipped_line is.0 is.1).faults c.in_err-lines.field-0.0 c.in_err-lines.ensures.refused)

pub loop-gate-preserved : goal.loop-gate-preserved
loop-gate-preserved c =
    let at = goal.at.loop-gate-preserved c in
    let is = here at.After-target_of-target in (
      (made at.After-flipped_line is.0 is.1).grows,
      lines_next (comparison c.args.compared.now) c.loop-gate.diagram c.flipped_line.new.diagram c.loop-gate.lines c.loop-gate.gate-index
          c.in_ok-lines.field-0 c.target_of-target.result c.gate-item.result is.0 is.1 c.target_of-target.ensures (bounds-lines-target c)
          c.flipped_line.ensures.kept c.in_ok-lines.ensures.answer c.loop-gate.invariant.1,
    )

pub returns-clause-ends : goal.returns-clause-ends
returns-clause-ends c =
    let v = c.args.compared.now in
    let gates = c.gates-gate-items.ensures.gates ∙ ap (λ (w : ComparedView). w.circuit.gates) c.compared.view_is in
    all_gates (comparison v) c.loop-gate.diagram.nodes c.loop-gate.lines c.loop-gate.gate-index
    (omega (arith, c.loop-gate-test.false, ap length gates)) c.loop-gate.invariant.1

pub returns-in_err-lines-clause-memory : goal.returns-in_err-lines-clause-memory
returns-in_err-lines-clause-memory c =
    one_fault (faults.Memory _) c.from_residual.result c.from_residual.ensures.1
    (λ is. refused_room _ c.flipped_line.new.diagram c.in_err-lines.field-0.0 is c.in_err-lines.ensures.refused)
