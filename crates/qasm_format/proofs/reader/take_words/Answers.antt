use Rattle.qasm_format.specs.inside.Says.{ReadsWord, StopsAtWords}
use Rattle.qasm_format.proofs.PassingLemmas.{fault_becomes, ok_becomes}
use Rattle.revc_base.proofs.ResultLemmas.{passes_on}
use Rattle.qasm_format.proofs.ReadingLemmas.{reads_then, stops_later}
use Rattle.qasm_format.proofs.reader.take_words.Goals as goal

pub returns-in_err-take_word-clause-err : goal.returns-in_err-take_word-clause-err
returns-in_err-take_word-clause-err c =
    passes_on (StopsAtWords c.args.tokens.now c.args.one.now c.args.other.now) c.from_residual.result c.from_residual.ensures.1
    (record { says = λ after. c.in_err-take_word.ensures.err.says _ })

pub returns-clause-ok : goal.returns-clause-ok
returns-clause-ok c = ok_becomes _ _ c.take_word-2.result c.take_word-2.ensures.ok
    (λ (word : ReadsWord c.take_word.new.tokens c.take_word-2.new.tokens c.args.other.now).
    record { says = λ after. reads_then (c.in_ok-take_word.ensures.ok.says _) (word.says after) })

pub returns-clause-err : goal.returns-clause-err
returns-clause-err c =
    fault_becomes _ (StopsAtWords c.args.tokens.now c.args.one.now c.args.other.now) c.take_word-2.result c.take_word-2.ensures.err
    (λ fault stops. record { says = λ after. stops_later fault (c.in_ok-take_word.ensures.ok.says _) (stops.says after) })
