use Rattle.std.proofs.Common.{List, ℕ, length, sym, ◌∙◌, subst}
use Rattle.std.proofs.lemmas.Bool.{eqb-true}
use Rattle.std.proofs.lemmas.List.{nil_from_length}
use Rattle.qasm_format.specs.declared.file.QasmFault.{QasmFault}
use Rattle.qasm_format.specs.Stages.{starts}
use Rattle.qasm_format.specs.Faults.{IsStop}
use Rattle.qasm_lexer.specs.Tokens.{Takes}
use Rattle.qasm_format.specs.inside.Says.{said_of}
use Rattle.qasm_format.proofs.PassingLemmas.{fault_becomes}
use Rattle.revc_base.proofs.ResultLemmas.{passes_on}
use Rattle.text_places.proofs.RunLemmas.{some_text}
use Rattle.qasm_format.proofs.StatementLemmas.{no_line, statement_read, statement_stops}
use Rattle.qasm_format.proofs.reader.read_statement.Goals as goal

pub returns-then-is_empty-clause-err : goal.returns-then-is_empty-clause-err
returns-then-is_empty-clause-err c =
    let none = nil_from_length c.next-token.result.word.now (eqb-true (length c.next-token.result.word.now) 0 (sym c.is_empty.ensures ∙ c.if-is_empty.true)) in
    let takes = subst (λ (w : List ℕ). Takes c.args.tokens.now c.next-token.new.self w c.next-token.result.at) none c.next-token.ensures in
    fault_becomes _ _ c.end_of.result c.end_of.ensures.err (λ (fault : QasmFault) h. subst (IsStop c.args.tokens.now (starts (said_of c.args.said.now)))
    (sym h.0) (no_line _ _ c.next-token.result.at (said_of c.args.said.now) takes h.1))

pub returns-in_err-read_behind-clause-err : goal.returns-in_err-read_behind-clause-err
returns-in_err-read_behind-clause-err c =
    let some = some_text c.next-token.result.word.now (sym c.is_empty.ensures ∙ c.if-is_empty.false) in
    passes_on (IsStop c.args.tokens.now (starts (said_of c.args.said.now))) c.from_residual.result c.from_residual.ensures.1
    (statement_stops _ _ c.next-token.result.word.now c.next-token.result.at (said_of c.args.said.now) _ c.next-token.ensures some
    c.in_err-read_behind.ensures.err)

pub returns-clause-ok : goal.returns-clause-ok
returns-clause-ok c =
    let some = some_text c.next-token.result.word.now (sym c.is_empty.ensures ∙ c.if-is_empty.false) in
    statement_read _ _ _ c.next-token.result.word.now c.next-token.result.at (said_of c.args.said.now) _ c.next-token.ensures some
    c.in_ok-read_behind.ensures.ok
