use Rattle.std.proofs.lemmas.Result.{MatchResult-weaker}
use Rattle.revs_lexer.specs.declared.sign.Sign.TheVariants as signs
use Rattle.revs_parser.specs.inside.Forms.{names_rest}
use Rattle.revs_parser.proofs.ReadingLemmas.{function_names_read}
use Rattle.revs_parser.proofs.PassingLemmas.{halts_on, halts_first, halts_behind, only}
use Rattle.revs_parser.proofs.expression.function_names.Goals as goal

pub returns-in_err-first : goal.returns-in_err-first
returns-in_err-first c = halts_on _ _ _ c.from_residual.ensures.1 (halts_first (names_rest signs.Arrow) c.in_err-first.ensures.halts)

pub returns : goal.returns
returns c =
    MatchResult-weaker c.names_up_to.result c.names_up_to.ensures
    (λ x. function_names_read c.in_ok-first.ensures.ok
    (only c.new-names.result.items c.in_ok-first.first c.in_ok-push.ensures.items c.new-names.ensures.items))
    (λ x. halts_behind (names_rest signs.Arrow) c.in_ok-first.ensures.ok)
