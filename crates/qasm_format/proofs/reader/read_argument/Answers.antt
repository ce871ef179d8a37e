use Rattle.std.proofs.Common.{sym, ◌∙◌, codes}
use Rattle.qasm_format.specs.inside.Says.{StopsAtArgument}
use Rattle.revc_base.proofs.ResultLemmas.{passes_on}
use Rattle.qasm_format.proofs.PassingLemmas.{fault_becomes, value_becomes}
use Rattle.qasm_format.proofs.ReadingLemmas.{same_word, other_word}
use Rattle.qasm_format.proofs.ArgumentLemmas.{Opens, unnamed, no_name, whole_read, opened, line_read, index_stops}
use Rattle.qasm_format.proofs.reader.read_argument.Goals as goal
use Rattle.qasm_format.proofs.reader.read_argument.Goals.{After-read_index}

pub returns-in_err-name-clause-err : goal.returns-in_err-name-clause-err
returns-in_err-name-clause-err c =
    passes_on (StopsAtArgument c.args.tokens.now c.args.declared.now.registers) c.from_residual.result c.from_residual.ensures.1
    (no_name _ _ _ c.in_err-name.ensures.err)

pub returns-in_default-clause-err : goal.returns-in_default-clause-err
returns-in_default-clause-err c =
    unnamed _ _ c.in_ok-name.name.word.now c.in_ok-name.name.at c.args.declared.now.registers c.in_ok-name.ensures.ok (c.find.ensures.none c.in_default.is)

bracket : (c : After-read_index) → Opens c.args.tokens.now c.next-behind.new.self c.args.declared.now.registers c.in-Some.span.first c.in-Some.span.size
bracket c =
    opened _ _ _ _ _ _ _ c.in-Some.span.first c.in-Some.span.size c.args.declared.now.registers c.in_ok-name.ensures.ok c.in-Some.ensures.some
    c.next-behind.ensures (same_word c.next-behind.result.word.now (codes "[") (sym c.is_word.ensures ∙ c.if-is_word.true))

pub returns-then-is_word-clause-ok : goal.returns-then-is_word-clause-ok
returns-then-is_word-clause-ok c =
    value_becomes _ _ c.read_index.result c.read_index.ensures.ok (λ read reads. line_read _ _ _ _ _ _ _ _ _ (bracket c) reads)

pub returns-then-is_word-clause-err : goal.returns-then-is_word-clause-err
returns-then-is_word-clause-err c =
    fault_becomes _ _ c.read_index.result c.read_index.ensures.err (λ fault stops. index_stops _ _ _ _ _ fault (bracket c) stops)

pub returns-clause-ok : goal.returns-clause-ok
returns-clause-ok c =
    whole_read _ _ _ _ _ _ _ c.in-Some.span.first c.in-Some.span.size c.args.declared.now.registers c.in_ok-name.ensures.ok c.in-Some.ensures.some
    c.next-behind.ensures (other_word c.next-behind.result.word.now (codes "[") (sym c.is_word.ensures ∙ c.if-is_word.false))
