use Rattle.arith_templates.proofs.PlaceLemmas.{sums_add}
use Rattle.arith_templates.proofs.law.sums_add.Goals as goal

pub returns : goal.returns
returns c = sums_add
