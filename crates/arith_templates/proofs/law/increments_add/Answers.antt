use Rattle.arith_templates.proofs.PlaceLemmas.{increments_add}
use Rattle.arith_templates.proofs.law.increments_add.Goals as goal

pub returns : goal.returns
returns c = increments_add
