use Rattle.arith_templates.proofs.PlaceLemmas.{differences_subtract}
use Rattle.arith_templates.proofs.law.differences_subtract.Goals as goal

pub returns : goal.returns
returns c = differences_subtract
