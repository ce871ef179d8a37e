use Rattle.std.proofs.Common.{Bool, subst, sym}
use Rattle.decision_diagram.specs.Diagrams.{function_of}
use Rattle.decision_diagram.specs.Functions.{GivesOnly}
use Rattle.claim_check.proofs.OutcomeLemmas.{claim_breaks, claim_holds, constant_gives, constant_other}
use Rattle.claim_check.proofs.claims.least_breaking.Goals as goal

pub returns-then-eq : goal.returns-then-eq
returns-then-eq c =
    let nodes = c.args.diagram.now.nodes in
    let f = c.number_at-function.result in
    claim_holds c.args.tape.now c.args.claim nodes c.args.numbers.now f c.requires.number c.number_at-function.ensures
    (subst (λ (b : Bool). GivesOnly (function_of nodes f) b) c.claimed-bit.ensures
    (constant_gives (function_of nodes f) c.constant.result c.claimed-bit.result (sym c.if-eq.ensures) c.constant.ensures.some))

pub least_other-requires-clause-other : goal.least_other-requires-clause-other
least_other-requires-clause-other c =
    let f = c.number_at-function.result in
    constant_other (function_of c.args.diagram.now.nodes f) c.constant.result c.claimed-bit.result (sym c.if-eq.ensures)
    c.constant.ensures.some c.constant.ensures.none

pub returns : goal.returns
returns c =
    let f = c.number_at-function.result in
    claim_breaks c.args.tape.now c.args.claim c.args.diagram.now.nodes c.args.numbers.now c.args.variables.now f c.claimed-bit.result
    c.in_ok-input.input c.requires.number c.number_at-function.ensures c.claimed-bit.ensures c.requires.variables c.in_ok-input.ensures
