use Rattle.arith_laws.proofs.SubtractorLemmas.{subtractors_subtract}
use Rattle.arith_laws.proofs.subtractors_subtract.Goals as goal

pub returns : goal.returns
returns c = subtractors_subtract
