use Rattle.std.proofs.Common.{◌≡◌, ◌+◌, ℕ, List, get_or, take, sym, subst}
use Rattle.std.proofs.lemmas.List.{get_or_read}
use Rattle.decision_diagram.specs.Diagrams.{function_of}
use Rattle.decision_diagram.specs.Functions.{conjunction}
use Rattle.revc_base.proofs.ResultLemmas.{passes_on}
use Rattle.circuit_verify.specs.Verdicts.{IsVerifyFault}
use Rattle.circuit_verify.specs.Compared.{comparison}
use Rattle.circuit_verify.specs.inside.Numbers.{AreRestricted}
use Rattle.circuit_verify.proofs.AskLemmas.{IsAnswered}
use Rattle.circuit_verify.proofs.LookedLemmas.{end_answered, restricted_more}
use Rattle.circuit_verify.proofs.looking.restricted.Goals as goal
use Rattle.circuit_verify.proofs.looking.restricted.Goals.{After-and}

read : (c : After-and) → c.number-item.result ≡ get_or c.args.numbers.now c.loop-number.number-index 0
read c = get_or_read c.args.numbers.now c.loop-number.number-index c.number-item.result c.loop-number-test.true c.number-item.is 0

made : (c : After-and) → c.number-item.result ≡ get_or c.args.numbers.now c.loop-number.number-index 0
    → IsAnswered (comparison c.args.compared.now) (conjunction (function_of c.loop-number.diagram.nodes c.number-item.result)
    (function_of c.loop-number.diagram.nodes c.args.looked)) c.args.diagram.now c.and.new.self
made c is =
    end_answered (comparison c.args.compared.now) c.variables.ensures.ready.comparable c.args.numbers.now c.loop-number.number-index c.args.looked
    c.number-item.result c.args.diagram.now c.loop-number.diagram c.and.new.self c.and.result c.requires.ends c.requires.looked c.loop-number-test.true is
    c.loop-number.invariant.0 c.and.ensures

pub returns-in_err-counted-clause-grows : goal.returns-in_err-counted-clause-grows
returns-in_err-counted-clause-grows c = let at = (goal.at.returns-in_err-counted-clause-grows c).After-and in (made at (read at)).grows

pub returns-in_err-counted-clause-refused : goal.returns-in_err-counted-clause-refused
returns-in_err-counted-clause-refused c =
    let at = (goal.at.returns-in_err-counted-clause-refused c).After-and in
    passes_on (IsVerifyFault (comparison c.args.compared.now) c.and.new.self.limit) c.from_residual.result c.from_residual.ensures.1
    ((made at (read at)).faults c.in_err-counted.field-0.0 c.in_err-counted.ensures.refused)

pub returns-in_err-push-clause-grows : goal.returns-in_err-push-clause-grows
returns-in_err-push-clause-grows c = let at = (goal.at.returns-in_err-push-clause-grows c).After-and in (made at (read at)).grows

pub loop-number-preserved : goal.loop-number-preserved
loop-number-preserved c =
    let at = (goal.at.loop-number-preserved c).After-and in
    let q = comparison c.args.compared.now in
    let k = c.loop-number.number-index in
    let first = c.args.diagram.now in
    let old = c.loop-number.diagram in
    let new = c.and.new.self in (
      (made at (read at)).grows,
      subst (λ (ns : List ℕ). AreRestricted q first.nodes new.nodes (take (k + 1) c.args.numbers.now) ns) (sym c.in_ok-push.ensures.items)
          (restricted_more q first old new c.args.numbers.now c.loop-number.restricted.items k c.args.looked c.number-item.result
          c.in_ok-counted.counted c.loop-number-test.true (read at) c.requires.ends c.requires.looked (c.loop-number.invariant.0).kept
          c.and.ensures.kept c.loop-number.invariant.1 c.in_ok-counted.ensures.answer),
    )
