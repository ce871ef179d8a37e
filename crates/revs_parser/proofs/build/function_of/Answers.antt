use Rattle.std.proofs.Common.{refl}
use Rattle.revs_terms.proofs.ShapeLemmas.{tree_of-Fun}
use Rattle.revs_parser.proofs.PassingLemmas.{halts_on}
use Rattle.revs_parser.proofs.build.function_of.Goals as goal

pub returns-in_err-new : goal.returns-in_err-new
returns-in_err-new c = halts_on _ _ _ c.from_residual.ensures.1 refl

pub returns : goal.returns
returns c = rw (tree_of-Fun, c.in_ok-new.ensures.ok)
