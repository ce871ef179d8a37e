use Rattle.std.proofs.Common.{Some, ap, refl, ◌∙◌}
use Rattle.revs_tape.specs.declared.tape.Ref.TheVariants as refs
use Rattle.decision_diagram.specs.Functions.{conjunction, exclusive_or}
use Rattle.claim_check.specs.inside.Tables.{function_at}
use Rattle.claim_check.proofs.NumberLemmas.{answer_constant, answer_pair}
use Rattle.claim_check.proofs.WriteLemmas.{function-And, function-Const, function-Xor}
use Rattle.claim_check.proofs.numbers.number_of_write.Goals as goal

pub returns-in-Const : goal.returns-in-Const
returns-in-Const c =
    let t = c.args.tape.now in
    answer_constant (function_at t (refs.Write c.args.write)) (λ _. c.in-Const.bit) c.args.diagram.now c.truth.result
    (function-Const t c.requires.tape c.args.write c.in-Const.bit (c.entry.ensures ∙ ap Some c.in-Const.is))
    c.truth.ensures.canonical c.truth.ensures.stands

pub returns-in-Xor : goal.returns-in-Xor
returns-in-Xor c =
    let at = c.entry.ensures ∙ ap Some c.in-Xor.is in
    answer_pair c.args.tape.now c.args.write _ _ _ exclusive_or _ _ c.args.numbers.now _ _ c.xor.result at refl
    (λ l m. function-Xor c.args.tape.now c.requires.tape c.args.write _ _ l m at)
    c.number_at.ensures c.number_at-in-Xor.ensures c.requires.operands c.xor.ensures

pub returns-in-And : goal.returns-in-And
returns-in-And c =
    let at = c.entry.ensures ∙ ap Some c.in-And.is in
    answer_pair c.args.tape.now c.args.write _ _ _ conjunction _ _ c.args.numbers.now _ _ c.and.result at refl
    (λ l m. function-And c.args.tape.now c.requires.tape c.args.write _ _ l m at)
    c.number_at-in-And.ensures c.number_at-in-And-2.ensures c.requires.operands c.and.ensures
