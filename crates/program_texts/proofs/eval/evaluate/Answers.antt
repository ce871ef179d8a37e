use Rattle.std.proofs.lemmas.Result.{IfErr-weaker, IfOk-weaker}
use Rattle.program_texts.proofs.eval.evaluate.Goals as goal

pub returns-clause-ok : goal.returns-clause-ok
returns-clause-ok c = IfOk-weaker c.run_on.result _ _ (λ bits all. all.of_text c.args.text.now c.in_ok-tape.ensures.left) c.run_on.ensures.ok

pub returns-clause-err : goal.returns-clause-err
returns-clause-err c = IfErr-weaker c.run_on.result _ _ (λ fault all. all.of_text c.args.text.now c.in_ok-tape.ensures.left) c.run_on.ensures.err
