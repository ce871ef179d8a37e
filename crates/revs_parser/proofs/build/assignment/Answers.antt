use Rattle.revs_terms.proofs.ShapeLemmas.{tree_of-Assign}
use Rattle.revs_parser.proofs.PassingLemmas.{halts_on}
use Rattle.revs_parser.proofs.build.assignment.Goals as goal

pub returns-in_err-left : goal.returns-in_err-left
returns-in_err-left c = halts_on _ _ _ c.from_residual.ensures.1 c.in_err-left.ensures

pub returns : goal.returns
returns c = rw (tree_of-Assign, c.in_ok-left.ensures.0, c.in_ok-left.ensures.1)
