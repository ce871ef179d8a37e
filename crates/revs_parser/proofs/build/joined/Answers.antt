use Rattle.revs_terms.proofs.ShapeLemmas.{tree_of-Append}
use Rattle.revs_parser.proofs.PassingLemmas.{halts_on}
use Rattle.revs_parser.proofs.build.joined.Goals as goal

pub returns-in_err-first : goal.returns-in_err-first
returns-in_err-first c = halts_on _ _ _ c.from_residual.ensures.1 c.in_err-first.ensures

pub returns : goal.returns
returns c = rw (tree_of-Append, c.in_ok-first.ensures.0, c.in_ok-first.ensures.1)
