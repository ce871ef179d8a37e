use Rattle.std.proofs.Common.{◌∙◌}
use Rattle.program_texts.proofs.EvalLemmas.{broken_at, is_claim, value_at}
use Rattle.program_texts.proofs.eval.run_on.Goals as goal

pub broken_claim-requires : goal.broken_claim-requires
broken_claim-requires c = is_claim c.args.tape.now c.bits.result.now c.in_ok-bits.field-0 c.in-Broken.claim c.in_ok-bits.ensures c.in-Broken.is

pub returns-in-Out-clause-ok : goal.returns-in-Out-clause-ok
returns-in-Out-clause-ok c =
    value_at c.args.tape.now c.args.word.now c.bits.result.now c.in-Out.bits c.in_ok-bits.field-0 c.in_ok-input.ensures.fits
    (c.bits.ensures ∙ c.in_ok-input.ensures.bits) c.in_ok-bits.ensures c.in-Out.is

pub returns-in-Broken-clause-err : goal.returns-in-Broken-clause-err
returns-in-Broken-clause-err c =
    broken_at c.args.tape.now c.args.word.now c.bits.result.now c.in_ok-input.input c.in_ok-bits.field-0 c.in-Broken.claim c.broken_claim.result
    c.in_ok-input.ensures.fits c.bits.ensures c.in_ok-input.ensures.bits c.in_ok-bits.ensures c.in-Broken.is c.broken_claim.ensures
