use Rattle.std.proofs.Common.{◌≡◌, ℕ, ◌+◌, Bool, List, length, Err, ap, ◌∙◌, subst, arith}
use Rattle.gate_split.specs.Split.{HasSplitList, IsSplitList, PassesLimit, WantsIdle}
use Rattle.mct_circuit.specs.Gates.{AreGatesOn, CircuitView, line_map}
use Rattle.circuit_plans.proofs.BorrowedLemmas.{clean_circuits_borrow}
use Rattle.gate_split.proofs.RoomyFlipLemmas.{roomy_flips}
use Rattle.plan_choice.proofs.SplitLemmas.{is_laid_of, many_gates}
use Rattle.plan_choice.proofs.laying.lay.Goals as goal

pub returns-in-Ok-clause-ok : goal.returns-in-Ok-clause-ok
returns-in-Ok-clause-ok c =
    let p = c.args.planned in
    let b = c.args.budget.now in
    let narrow = c.in-Ok.narrow in
    let on : AreGatesOn p.circuit.lines p.circuit.gates = rw c.circuit.ensures.circuit at c.lines-2.ensures.gates in
    let lines = ap (λ (n : CircuitView). n.lines) c.circuit.ensures.circuit in
    let borrow = c.borrow.ensures.borrow in
    let count = c.lines-2.ensures.lines in
    let size : narrow.lines ≡ p.circuit.lines + b.borrow = ap (λ (n : CircuitView). n.lines) c.in-Ok.ensures.size ∙ omega arith in
    let limit = c.gates.ensures.gates in
    let map : (bits : List Bool) → length bits ≡ p.circuit.lines + b.borrow → line_map narrow.gates bits ≡ line_map p.circuit.gates bits =
    λ bits many. c.in-Ok.ensures.map bits (many ∙ omega arith) ∙ ap (λ (n : CircuitView). line_map n.gates bits) c.into_circuit.ensures in
    let more : c.lines-2.result + c.borrow.result ≡ p.circuit.lines + b.borrow = omega arith in
    let split : IsSplitList (p.circuit.lines + b.borrow) b.gates p.circuit.gates narrow.gates =
    subst (λ (n : ℕ). IsSplitList n b.gates p.circuit.gates narrow.gates) more
    (subst (λ (n : ℕ). IsSplitList (c.lines-2.result + c.borrow.result) n p.circuit.gates narrow.gates) limit
    (subst (λ (n : CircuitView). IsSplitList (c.lines-2.result + c.borrow.result) c.gates.result n.gates narrow.gates) c.into_circuit.ensures
    c.in-Ok.ensures.gates)) in
    rw (c.new.ensures, c.inputs-inputs.ensures, c.outputs-outputs.ensures, c.work-work.ensures, c.borrow-in-Ok.ensures.borrow)
    (is_laid_of p b narrow clean_circuits_borrow c.circuit.ensures.lines on c.requires.lines size split map)

pub returns-in-Err-Gates-clause-refused : goal.returns-in-Err-Gates-clause-refused
returns-in-Err-Gates-clause-refused c =
    let p = c.args.planned in
    let more = c.lines-2.result + c.borrow.result in
    let lines = ap (λ (n : CircuitView). n.lines) c.circuit.ensures.circuit in
    let count = c.lines-2.ensures.lines in
    let refused : PassesLimit more c.gates.result p.circuit.gates =
    subst (λ (n : CircuitView). PassesLimit more c.gates.result n.gates) c.into_circuit.ensures
    (c.in-Err-Gates.ensures.over (ap Err c.in-Err-Gates.field-0-is)) in
    let over = many_gates p.circuit.lines more c.gates.result p.circuit.gates roomy_flips (omega arith) c.requires.roomy refused in
    let limit = c.gates.ensures.gates in
    omega arith

pub returns-in-Err-Memory-clause-refused : goal.returns-in-Err-Memory-clause-refused
returns-in-Err-Memory-clause-refused c =
    let p = c.args.planned in
    let b = c.args.budget.now in
    let lines = ap (λ (n : CircuitView). n.lines) c.circuit.ensures.circuit in
    let borrow = c.borrow.ensures.borrow in
    let count = c.lines-2.ensures.lines in
    let more : c.lines-2.result + c.borrow.result ≡ p.circuit.lines + b.borrow = omega arith in
    subst (λ (n : ℕ). HasSplitList n b.gates p.circuit.gates) more
    (subst (λ (n : ℕ). HasSplitList (c.lines-2.result + c.borrow.result) n p.circuit.gates) c.gates.ensures.gates
    (subst (λ (n : CircuitView). HasSplitList (c.lines-2.result + c.borrow.result) c.gates.result n.gates) c.into_circuit.ensures
    (c.in-Err-Memory.ensures.memory (ap Err c.in-Err-Memory.field-0-is))))

pub unreachable-requires : goal.unreachable-requires
unreachable-requires c =
    let p = c.args.planned in
    let more = c.lines-2.result + c.borrow.result in
    let place = c.in-Err-NoIdle.field-0-0 in
    let law = roomy_flips in
    let lines = ap (λ (n : CircuitView). n.lines) c.circuit.ensures.circuit in
    let count = c.lines-2.ensures.lines in
    let wants = subst (λ (n : CircuitView). WantsIdle more c.gates.result n.gates place) c.into_circuit.ensures
    (c.in-Err-NoIdle.ensures.no_idle place (ap Err c.in-Err-NoIdle.field-0-is)) in
    law.idle more c.gates.result place p.circuit.gates (law.wider p.circuit.lines more p.circuit.gates (omega arith) c.requires.roomy) wants
