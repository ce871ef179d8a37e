use Rattle.std.proofs.Common.{arith}
use Rattle.program_texts.proofs.EvalLemmas.{bits_refused}
use Rattle.program_texts.proofs.eval.input_of.Goals as goal

pub returns-in-Err-clause-err : goal.returns-in-Err-clause-err
returns-in-Err-clause-err c =
    rw c.bits_fault.ensures (bits_refused _ c.args.word.now c.in-Err.fault (λ at is. c.in-Err.ensures.bad at cc)
    (λ at first. let is = c.in-Err.ensures.named at first in cc) (omega (arith, c.inputs.ensures)))
