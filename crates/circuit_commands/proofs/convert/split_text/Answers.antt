use Rattle.std.proofs.lemmas.Result.{IfOk-weaker}
use Rattle.circuit_commands.proofs.CircuitLemmas.{has_lines}
use Rattle.circuit_commands.proofs.convert.split_text.Goals as goal

pub split_gates-requires-clause-lines : goal.split_gates-requires-clause-lines
split_gates-requires-clause-lines c = has_lines c.args.from c.args.text.items c.in_ok-source.source c.in_ok-source.ensures.ok.meaning

pub returns-clause-ok : goal.returns-clause-ok
returns-clause-ok c =
    IfOk-weaker c.split_gates.result _ _ (λ made s. record { circuit = c.in_ok-source.source; means = c.in_ok-source.ensures.ok; split = s })
    c.split_gates.ensures.ok
