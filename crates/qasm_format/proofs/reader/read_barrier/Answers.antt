use Rattle.std.proofs.Common.{sym, ◌∙◌, codes}
use Rattle.qasm_format.specs.inside.Says.{StopsAtBarrier}
use Rattle.revc_base.proofs.ResultLemmas.{passes_on}
use Rattle.qasm_format.proofs.ReadingLemmas.{same_word, other_word}
use Rattle.qasm_format.proofs.ArgumentLemmas.{barrier_begun, barrier_more, barrier_fails, barrier_ends, barrier_open}
use Rattle.qasm_format.proofs.reader.read_barrier.Goals as goal

pub arguments-init : goal.arguments-init
arguments-init c = barrier_begun c.args.tokens.now c.args.declared.now.registers

pub returns-in_err-behind-clause-err : goal.returns-in_err-behind-clause-err
returns-in_err-behind-clause-err c =
    passes_on (StopsAtBarrier c.args.tokens.now c.args.declared.now.registers) c.from_residual.result c.from_residual.ensures.1
    (barrier_fails _ _ _ _ c.arguments.invariant c.in_err-behind.ensures.err)

pub returns-then-is_word-clause-ok : goal.returns-then-is_word-clause-ok
returns-then-is_word-clause-ok c = barrier_ends _ _ _ _ _ _ _ c.arguments.invariant c.in_ok-behind.ensures.ok
    (same_word c.in_ok-behind.behind.word.now (codes ";") (sym c.is_word.ensures ∙ c.if-is_word.true))

pub returns-then-not-is_word-clause-err : goal.returns-then-not-is_word-clause-err
returns-then-not-is_word-clause-err c = barrier_open _ _ _ _ _ _ _ c.arguments.invariant c.in_ok-behind.ensures.ok
    (other_word c.in_ok-behind.behind.word.now (codes ",") (sym c.is_word-in-arguments.ensures ∙ c.if-not-is_word.true))
    (other_word c.in_ok-behind.behind.word.now (codes ";") (sym c.is_word.ensures ∙ c.if-is_word.false))

pub arguments-preserved : goal.arguments-preserved
arguments-preserved c = barrier_more _ _ _ _ _ _ _ c.arguments.invariant c.in_ok-behind.ensures.ok
    (same_word c.in_ok-behind.behind.word.now (codes ",") (sym c.is_word-in-arguments.ensures ∙ c.if-not-is_word.false))
