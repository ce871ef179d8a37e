use Rattle.std.proofs.Common.{sym, ◌∙◌}
use Rattle.revs_lexer.specs.Rest.{left}
use Rattle.revs_parser.proofs.ProgramLemmas.{ended, not_at_end, halt_is_right}
use Rattle.revs_parser.proofs.program.whole.Goals as goal
use Rattle.revc_base.proofs.ResultLemmas.{passes_on}

pub returns-in_err-params-clause-refused : goal.returns-in_err-params-clause-refused
returns-in_err-params-clause-refused c =
    passes_on _ _ c.from_residual.ensures.1 (halt_is_right c.args.tokens.now c.in_err-params.field-0.0 c.requires (rw c.all.ensures at c.in_err-params.ensures))

pub returns-then-not-ends-clause-refused : goal.returns-then-not-ends-clause-refused
returns-then-not-ends-clause-refused c =
    rw c.len.ensures (not_at_end c.args.tokens.now (left c.in_ok-params.rest) c.requires (rw c.all.ensures at c.in_ok-params.ensures)
    (sym c.ends.ensures ∙ c.if-not-ends.true))

pub returns-clause-ok : goal.returns-clause-ok
returns-clause-ok c =
    ended c.args.tokens.now (left c.in_ok-params.rest) c.requires (rw c.all.ensures at c.in_ok-params.ensures) (sym c.ends.ensures ∙ c.if-not-ends.false)
