use Rattle.std.proofs.Common.{codes}
use Rattle.qasm_format.specs.Stages.{head, starts, nothing_said}
use Rattle.qasm_format.specs.Faults.{IsStop}
use Rattle.qasm_format.specs.inside.Says.{ReadsWords}
use Rattle.qasm_format.proofs.PassingLemmas.{fault_becomes, ok_becomes}
use Rattle.revc_base.proofs.ResultLemmas.{passes_on}
use Rattle.qasm_format.proofs.ReadingLemmas.{reads_then, stops_later}
use Rattle.qasm_format.proofs.reader.read_head.Goals as goal

pub returns-in_err-take_word-clause-err : goal.returns-in_err-take_word-clause-err
returns-in_err-take_word-clause-err c =
    passes_on (IsStop c.args.tokens.now head) c.from_residual.result c.from_residual.ensures.1 (c.in_err-take_word.ensures.err.says _)

pub returns-clause-ok : goal.returns-clause-ok
returns-clause-ok c = ok_becomes _ _ c.take_words.result c.take_words.ensures.ok
    (λ (words : ReadsWords c.take_word.new.tokens c.take_words.new.tokens (codes "2.0") (codes ";")).
    reads_then (c.in_ok-take_word.ensures.ok.says _) (words.says (starts nothing_said)))

pub returns-clause-err : goal.returns-clause-err
returns-clause-err c = fault_becomes _ _ c.take_words.result c.take_words.ensures.err
    (λ fault stops. stops_later fault (c.in_ok-take_word.ensures.ok.says _) (stops.says (starts nothing_said)))
