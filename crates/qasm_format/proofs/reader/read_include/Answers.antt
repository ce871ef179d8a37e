use Rattle.qasm_format.specs.Stages.{wants_library}
use Rattle.qasm_format.specs.Faults.{IsStop}
use Rattle.qasm_format.specs.inside.Says.{said_of}
use Rattle.revc_base.proofs.ResultLemmas.{passes_on}
use Rattle.qasm_format.proofs.reader.read_include.Goals as goal

pub returns-in_err-take_words-clause-err : goal.returns-in_err-take_words-clause-err
returns-in_err-take_words-clause-err c =
    passes_on (IsStop c.args.tokens.now (wants_library (said_of c.args.said.now))) c.from_residual.result c.from_residual.ensures.1
    (c.in_err-take_words.ensures.err.says _)

pub returns-clause-ok : goal.returns-clause-ok
returns-clause-ok c = c.in_ok-take_words.ensures.ok.says _
