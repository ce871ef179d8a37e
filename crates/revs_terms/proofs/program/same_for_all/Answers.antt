use Rattle.revs_terms.proofs.BitlessTapeLemmas.{same_for_all}
use Rattle.revs_terms.proofs.program.same_for_all.Goals as goal

pub returns : goal.returns
returns c = same_for_all
