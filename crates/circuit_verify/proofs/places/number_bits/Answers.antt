use Rattle.std.proofs.Common.{◌<◌, ◌+◌, ℕ, List, get_or, take, sym, subst, arith}
use Rattle.decision_diagram.specs.Functions.{variable_at}
use Rattle.decision_diagram.proofs.GrowthLemmas.{StandsFor-same}
use Rattle.list_facts.specs.Bits.{bit_of}
use Rattle.revc_base.proofs.ResultLemmas.{passes_on}
use Rattle.circuit_verify.specs.Comparisons.{variables_in}
use Rattle.circuit_verify.specs.Verdicts.{IsVerifyFault}
use Rattle.circuit_verify.specs.Compared.{comparison}
use Rattle.circuit_verify.specs.inside.Numbers.{AreNumbersOf, bits_in}
use Rattle.circuit_verify.proofs.AskLemmas.{IsAnswered}
use Rattle.circuit_verify.proofs.NumberLemmas.{numbers-grown}
use Rattle.circuit_verify.proofs.StepLemmas.{all_bits, bit_answered, bits_more, variable_inside, variable_is}
use Rattle.circuit_verify.proofs.places.number_bits.Goals as goal
use Rattle.circuit_verify.proofs.places.number_bits.Goals.{After-input}

low : (c : After-input) → c.loop-variable.variable-index < variables_in (comparison c.args.compared.now)
low c = omega (arith, c.loop-variable-test.true, c.requires.variables.size)

made : (c : After-input) → IsAnswered (comparison c.args.compared.now) (variable_at (get_or c.args.variables.now c.loop-variable.variable-index 0))
    c.args.diagram.now c.input.new.self
made c =
    bit_answered (comparison c.args.compared.now) c.args.variables.now c.loop-variable.variable-index c.args.diagram.now c.loop-variable.diagram
    c.input.new.self c.input.result c.variables.ensures.ready.comparable c.requires.variables (low c) c.loop-variable.invariant.0 c.input.ensures

pub input-requires : goal.input-requires
input-requires c =
    let q = comparison c.args.compared.now in
    let i = c.loop-variable.variable-index in
    omega (
      arith,
      variable_inside q c.args.variables.now i c.requires.variables (omega (arith, c.loop-variable-test.true, c.requires.variables.size)),
      (c.loop-variable.invariant.0).holds.vars,
    )

pub returns-in_err-number-clause-grows : goal.returns-in_err-number-clause-grows
returns-in_err-number-clause-grows c = (made (goal.at.returns-in_err-number-clause-grows c).After-input).grows

pub returns-in_err-number-clause-refused : goal.returns-in_err-number-clause-refused
returns-in_err-number-clause-refused c =
    passes_on (IsVerifyFault (comparison c.args.compared.now) c.input.new.self.limit) c.from_residual.result c.from_residual.ensures.1
    ((made (goal.at.returns-in_err-number-clause-refused c).After-input).faults c.in_err-number.field-0.0 c.in_err-number.ensures.refused)

pub returns-in_err-push-clause-grows : goal.returns-in_err-push-clause-grows
returns-in_err-push-clause-grows c = (made (goal.at.returns-in_err-push-clause-grows c).After-input).grows

pub loop-variable-preserved : goal.loop-variable-preserved
loop-variable-preserved c =
    let there = (goal.at.loop-variable-preserved c).After-input in
    let q = comparison c.args.compared.now in
    let variables = c.args.variables.now in
    let i = c.loop-variable.variable-index in
    let old = c.loop-variable.diagram in
    let new = c.input.new.self in
    let numbers = c.loop-variable.numbers.items in
    let stands = StandsFor-same new.nodes c.in_ok-number.number (variable_at (get_or variables i 0)) (λ a. bit_of (bits_in q a) i)
    (variable_is q variables i c.requires.variables (low there)) c.in_ok-number.ensures.answer in (
      (made there).grows,
      subst (λ (ns : List ℕ). AreNumbersOf q new.nodes ns (λ bits. take (i + 1) bits)) (sym c.in_ok-push.ensures.items)
          (bits_more q new.nodes numbers c.in_ok-number.number i (low there)
          (numbers-grown q old new c.input.ensures.kept numbers (λ bits. take i bits) c.loop-variable.invariant.1) stands),
    )

pub returns-clause-numbers : goal.returns-clause-numbers
returns-clause-numbers c =
    let q = comparison c.args.compared.now in
    all_bits q c.loop-variable.diagram.nodes c.loop-variable.numbers.items c.loop-variable.variable-index
    (omega (arith, c.loop-variable-test.false, c.requires.variables.size)) c.loop-variable.invariant.1
