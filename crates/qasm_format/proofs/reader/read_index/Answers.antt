use Rattle.std.proofs.Common.{arith}
use Rattle.qasm_format.specs.inside.Says.{StopsAtIndex}
use Rattle.revc_base.proofs.ResultLemmas.{passes_on}
use Rattle.qasm_format.proofs.ArgumentLemmas.{no_index, beyond, unclosed, index_read}
use Rattle.qasm_format.proofs.reader.read_index.Goals as goal

pub returns-in_err-index-clause-err : goal.returns-in_err-index-clause-err
returns-in_err-index-clause-err c =
    passes_on (StopsAtIndex c.args.tokens.now c.args.span.first c.args.span.size) c.from_residual.result c.from_residual.ensures.1
    (no_index _ _ _ _ c.in_err-index.ensures.err)

pub returns-then-index-span-clause-err : goal.returns-then-index-span-clause-err
returns-then-index-span-clause-err c = beyond _ _ c.in_ok-index.at c.in_ok-index.index _ _ c.in_ok-index.ensures.ok (omega arith)

pub returns-in_err-take_word-clause-err : goal.returns-in_err-take_word-clause-err
returns-in_err-take_word-clause-err c =
    passes_on (StopsAtIndex c.args.tokens.now c.args.span.first c.args.span.size) c.from_residual-in_err-take_word.result
    c.from_residual-in_err-take_word.ensures.1
    (unclosed _ _ c.in_ok-index.at c.in_ok-index.index _ _ _ c.in_ok-index.ensures.ok (omega arith) c.in_err-take_word.ensures.err)

pub returns-clause-ok : goal.returns-clause-ok
returns-clause-ok c =
    index_read _ _ _ _ c.in_ok-index.at _ c.in_ok-index.index _ _ _ c.in_ok-index.ensures.ok (omega arith) c.in_ok-take_word.ensures.ok c.next.ensures
