use Rattle.real_format.proofs.FrontLemmas.{fronts_go_on}
use Rattle.real_format.proofs.law.fronts_go_on.Goals as goal

pub returns : goal.returns
returns c = fronts_go_on
