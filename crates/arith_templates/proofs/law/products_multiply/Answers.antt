use Rattle.arith_templates.proofs.PlaceLemmas.{products_multiply}
use Rattle.arith_templates.proofs.law.products_multiply.Goals as goal

pub returns : goal.returns
returns c = products_multiply
