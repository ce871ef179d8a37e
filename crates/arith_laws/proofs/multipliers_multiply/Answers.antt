use Rattle.arith_laws.proofs.MultiplierLemmas.{multipliers_multiply}
use Rattle.arith_laws.proofs.multipliers_multiply.Goals as goal

pub returns : goal.returns
returns c = multipliers_multiply
