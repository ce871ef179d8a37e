use Rattle.std.proofs.Common.{◌≡◌, ◌<◌, ◌+◌, ℕ, List, get_or, length, take, sym, subst, arith}
use Rattle.std.proofs.lemmas.List.{get_or_read}
use Rattle.decision_diagram.specs.Diagrams.{IsNumber, function_of}
use Rattle.decision_diagram.specs.Functions.{Function, exclusive_or}
use Rattle.decision_diagram.specs.Growth.{Computes, MayRefuse, StandsFor}
use Rattle.decision_diagram.proofs.GrowthLemmas.{StandsFor-same}
use Rattle.list_facts.specs.Bits.{bit_of}
use Rattle.revc_base.proofs.ResultLemmas.{passes_on}
use Rattle.circuit_verify.specs.Verdicts.{IsVerifyFault}
use Rattle.circuit_verify.specs.Compared.{comparison}
use Rattle.circuit_verify.specs.inside.Numbers.{AreNumbersOf, bits_in}
use Rattle.circuit_verify.proofs.AskLemmas.{IsAnswered}
use Rattle.circuit_verify.proofs.NumberLemmas.{known-at, numbers-grown}
use Rattle.circuit_verify.proofs.StepLemmas.{AreOutputs, all_wanted, at_place, many_added, many_outputs, outputs_grown, wanted_answered, wanted_bits}
use Rattle.circuit_verify.proofs.StepLemmas.{wanted_is, wanted_more}
use Rattle.circuit_verify.proofs.outputs.number_added.Goals as goal
use Rattle.circuit_verify.proofs.outputs.number_added.Goals.{After-index-held-line, After-index-outputs-line, After-variables, After-xor}

outputs_are : (c : After-variables) → AreOutputs c.args.compared.now c.args.diagram.now.nodes c.args.held.now c.args.outputs.now
outputs_are c = record { held_are = c.requires.held; outputs_are = c.requires.outputs }

-- there are as many lines as outputs
low : (c : After-index-held-line) → (c.loop-line.line < length c.args.compared.now.graph.outputs) × (c.loop-line.line < length c.args.held.now)
low c =
    let v = c.args.compared.now in
    let many = many_outputs (comparison v) v.graph c.args.diagram.now.nodes c.args.outputs.now c.requires.outputs in
    let held = many_added v c.args.diagram.now.nodes c.args.held.now c.requires.placing c.requires.held in
    (omega (arith, c.loop-line-test.true, many), omega (arith, c.loop-line-test.true, many, held))

held_is : (c : After-index-held-line) → c.loop-line.line < length c.args.held.now → c.index-held-line.result ≡ get_or c.args.held.now c.loop-line.line 0
held_is c inside = get_or_read c.args.held.now c.loop-line.line c.index-held-line.result inside c.index-held-line.is 0

output_is : (c : After-index-outputs-line) → c.index-outputs-line.result ≡ get_or c.args.outputs.now c.loop-line.line 0
output_is c =
    get_or_read c.args.outputs.now c.loop-line.line c.index-outputs-line.result c.loop-line-test.true c.index-outputs-line.is 0

made : (c : After-xor) → c.loop-line.line < length c.args.compared.now.graph.outputs
    → c.index-held-line.result ≡ get_or c.args.held.now c.loop-line.line 0 → c.index-outputs-line.result ≡ get_or c.args.outputs.now c.loop-line.line 0
    → IsAnswered (comparison c.args.compared.now) (exclusive_or (function_of c.loop-line.diagram.nodes (get_or c.args.held.now c.loop-line.line 0))
    (function_of c.loop-line.diagram.nodes (get_or c.args.outputs.now c.loop-line.line 0))) c.args.diagram.now c.xor.new.self
made c inside first second =
    let old = c.loop-line.diagram in
    wanted_answered c.args.compared.now c.variables.ensures.ready c.args.held.now c.args.outputs.now c.loop-line.line c.args.diagram.now old c.xor.new.self
    c.xor.result c.requires.placing inside (record { held_are = c.requires.held; outputs_are = c.requires.outputs }) c.loop-line.invariant.0
    (at_place (λ (f : Function). Computes f old c.xor.new.self c.xor.result) old.nodes c.args.held.now c.args.outputs.now c.loop-line.line
    c.index-held-line.result c.index-outputs-line.result first second c.xor.ensures)

pub bounds-held-line : goal.bounds-held-line
bounds-held-line c =
    let v = c.args.compared.now in
    omega (
      arith,
      c.loop-line-test.true,
      many_outputs (comparison v) v.graph c.args.diagram.now.nodes c.args.outputs.now c.requires.outputs,
      many_added v c.args.diagram.now.nodes c.args.held.now c.requires.placing c.requires.held,
    )

pub xor-requires-clause-left : goal.xor-requires-clause-left
xor-requires-clause-left c =
    let at = goal.at.xor-requires-clause-left c in
    let inside = (low at.After-index-held-line).1 in
    let there = outputs_grown c.args.compared.now c.args.diagram.now c.loop-line.diagram c.args.held.now c.args.outputs.now (c.loop-line.invariant.0).kept
    (outputs_are at.After-variables) in
    subst (IsNumber c.loop-line.diagram.nodes) (sym (held_is at.After-index-held-line inside))
    (known-at c.loop-line.diagram.nodes c.args.held.now c.loop-line.line there.held_are.known inside)

pub returns-in_err-number-clause-grows : goal.returns-in_err-number-clause-grows
returns-in_err-number-clause-grows c =
    let at = goal.at.returns-in_err-number-clause-grows c in
    let inside = low at.After-index-held-line in
    (made at.After-xor inside.0 (held_is at.After-index-held-line inside.1) (output_is at.After-index-outputs-line)).grows

pub returns-in_err-number-clause-refused : goal.returns-in_err-number-clause-refused
returns-in_err-number-clause-refused c =
    let at = goal.at.returns-in_err-number-clause-refused c in
    let inside = low at.After-index-held-line in
    let first = held_is at.After-index-held-line inside.1 in
    let second = output_is at.After-index-outputs-line in
    passes_on (IsVerifyFault (comparison c.args.compared.now) c.xor.new.self.limit) c.from_residual.result c.from_residual.ensures.1
    ((made at.After-xor inside.0 first second).faults c.in_err-number.field-0.0
    (at_place (λ (f : Function). MayRefuse f c.xor.new.self c.in_err-number.field-0.0) c.loop-line.diagram.nodes
    c.args.held.now c.args.outputs.now c.loop-line.line c.index-held-line.result c.index-outputs-line.result first second c.in_err-number.ensures.refused))

pub returns-in_err-push-clause-grows : goal.returns-in_err-push-clause-grows
returns-in_err-push-clause-grows c =
    let at = goal.at.returns-in_err-push-clause-grows c in
    let inside = low at.After-index-held-line in
    (made at.After-xor inside.0 (held_is at.After-index-held-line inside.1) (output_is at.After-index-outputs-line)).grows

pub loop-line-preserved : goal.loop-line-preserved
loop-line-preserved c =
    let at = goal.at.loop-line-preserved c in
    let v = c.args.compared.now in
    let q = comparison v in
    let k = c.loop-line.line in
    let old = c.loop-line.diagram in
    let new = c.xor.new.self in
    let held = c.args.held.now in
    let outputs = c.args.outputs.now in
    let numbers = c.loop-line.wanted.items in
    let inside = low at.After-index-held-line in
    let first = held_is at.After-index-held-line inside.1 in
    let second = output_is at.After-index-outputs-line in
    let there = outputs_grown v c.args.diagram.now old held outputs (c.loop-line.invariant.0).kept (outputs_are at.After-variables) in
    let stands = StandsFor-same new.nodes c.in_ok-number.number
    (exclusive_or (function_of old.nodes (get_or held k 0)) (function_of old.nodes (get_or outputs k 0))) (λ a. bit_of (wanted_bits v (bits_in q a)) k)
    (wanted_is v old.nodes held outputs k c.requires.placing inside.0 there)
    (at_place (λ (f : Function). StandsFor new.nodes c.in_ok-number.number f) old.nodes held outputs k c.index-held-line.result c.index-outputs-line.result
    first second c.in_ok-number.ensures.answer) in (
      (made at.After-xor inside.0 first second).grows,
      subst (λ (ns : List ℕ). AreNumbersOf q new.nodes ns (λ bits. take (k + 1) (wanted_bits v bits))) (sym c.in_ok-push.ensures.items)
          (wanted_more v new.nodes numbers c.in_ok-number.number k c.requires.placing inside.0
          (numbers-grown q old new c.xor.ensures.kept numbers (λ bits. take k (wanted_bits v bits)) c.loop-line.invariant.1) stands),
    )

pub returns-clause-numbers : goal.returns-clause-numbers
returns-clause-numbers c =
    let v = c.args.compared.now in
    all_wanted v c.loop-line.diagram.nodes c.loop-line.wanted.items c.loop-line.line c.requires.placing
    (omega (arith, c.loop-line-test.false, many_outputs (comparison v) v.graph c.args.diagram.now.nodes c.args.outputs.now c.requires.outputs))
    c.loop-line.invariant.1
