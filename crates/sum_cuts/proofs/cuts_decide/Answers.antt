use Rattle.sum_cuts.proofs.CutLemmas.{decide}
use Rattle.sum_cuts.proofs.cuts_decide.Goals as goal

pub returns : goal.returns
returns c = decide
