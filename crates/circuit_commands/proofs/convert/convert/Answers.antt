use Rattle.std.proofs.lemmas.Result.{IfOk-weaker}
use Rattle.circuit_commands.proofs.ConvertLemmas.{split_written}
use Rattle.circuit_commands.proofs.convert.convert.Goals as goal

pub returns-clause-ok : goal.returns-clause-ok
returns-clause-ok c =
    IfOk-weaker c.split_text.result _ _ (λ made s. split_written c.args.from c.args.text.items made s) c.split_text.ensures.ok
