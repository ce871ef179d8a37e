use Rattle.revs_lexer.specs.declared.sign.Sign.TheVariants as signs
use Rattle.revs_parser.specs.inside.Forms.{names_rest}
use Rattle.revs_parser.proofs.ReadingLemmas.{bound_names_read}
use Rattle.revs_parser.proofs.PassingLemmas.{halts_on, halts_first, halts_behind}
use Rattle.revs_parser.proofs.expression.bound_names.Goals as goal

pub returns-in_err-bound : goal.returns-in_err-bound
returns-in_err-bound c = halts_on _ _ _ c.from_residual.ensures.1 (halts_first (names_rest signs.Equal) c.in_err-bound.ensures.halts)

pub returns-in_err-names : goal.returns-in_err-names
returns-in_err-names c =
    halts_on _ _ _ c.from_residual-in_err-names.ensures.1 (halts_behind (names_rest signs.Equal) c.in_ok-bound.ensures.ok c.in_err-names.ensures)

pub returns : goal.returns
returns c = bound_names_read c.in_ok-bound.ensures.ok c.new.ensures.items c.in_ok-names.ensures
