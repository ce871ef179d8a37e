use Rattle.exclusive_sums.proofs.MergingLemmas.{merging_is_determined}
use Rattle.exclusive_sums.proofs.law.determinacy.Goals as goal

pub returns : goal.returns
returns c = merging_is_determined
