use Rattle.arith_laws.proofs.AdderLemmas.{adders_add}
use Rattle.arith_laws.proofs.adders_add.Goals as goal

pub returns : goal.returns
returns c = adders_add
