use Rattle.clap.specs.Words.{app_of, found_of, rows_of}
use Rattle.revc_words.specs.Words.{words_of}
use Rattle.revc_words.proofs.ParsingLemmas.{succeeds, fails, passes_on}
use Rattle.revc_words.proofs.parsing.matched.Goals as goal

pub returns-in_err-try_get_matches_from-clause-usage :
    goal.returns-in_err-try_get_matches_from-clause-usage
returns-in_err-try_get_matches_from-clause-usage c =
    λ is. fails c.args.command (app_of c.in_ok-app.field-0) (words_of c.args.words.now) c.in_err-try_get_matches_from.field-0.0
    c.in_ok-app.ensures c.in_err-try_get_matches_from.ensures.kinds
    (passes_on c.from_residual-in_err-try_get_matches_from.result is c.from_residual-in_err-try_get_matches_from.ensures.1)

pub returns-clause-ok : goal.returns-clause-ok
returns-clause-ok c =
    succeeds c.args.command (app_of c.in_ok-app.field-0) (words_of c.args.words.now) (rows_of (found_of c.in_ok-try_get_matches_from.field-0))
    c.in_ok-app.ensures c.in_ok-try_get_matches_from.ensures.kinds c.in_ok-try_get_matches_from.ensures.matches
