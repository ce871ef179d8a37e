use Rattle.std.proofs.Common.{subst}
use Rattle.qasm_format.specs.Faults.{IsQasmFault}
use Rattle.qasm_format.specs.inside.Says.{GoesOn}
use Rattle.revc_base.proofs.ResultLemmas.{passes_on}
use Rattle.qasm_format.proofs.ReadingLemmas.{reads_then, stops_later}
use Rattle.qasm_format.proofs.FileLemmas.{file_ends}
use Rattle.qasm_format.proofs.reader.read_text.Goals as goal

pub returns-in_err-read_statement-clause-err : goal.returns-in_err-read_statement-clause-err
returns-in_err-read_statement-clause-err c =
    passes_on (IsQasmFault c.args.bytes.now) c.from_residual-in_err-read_statement.result c.from_residual-in_err-read_statement.ensures.1
    (stops_later _ c.statements.invariant.reads c.in_err-read_statement.ensures.err)

pub statements-preserved : goal.statements-preserved
statements-preserved c =
    let more = subst (λ m. GoesOn m c.statements.tokens c.read_statement.new.tokens c.statements.said c.read_statement.new.said) c.if-branch.true
    c.in_ok-read_statement.ensures.ok in
    record { reads = reads_then c.statements.invariant.reads more.reads; sound = c.in_ok-read_statement.ensures.sound }

pub returns-clause-ok : goal.returns-clause-ok
returns-clause-ok c =
    file_ends c.args.bytes.now _ _ c.statements.said c.read_statement.new.said c.file_of.result c.statements.invariant.reads
    (subst (λ m. GoesOn m c.statements.tokens c.read_statement.new.tokens c.statements.said c.read_statement.new.said) c.if-branch.false
    c.in_ok-read_statement.ensures.ok) c.file_of.ensures.ok
