use Rattle.arith_laws.proofs.IncrementLemmas.{incrementers_add_one}
use Rattle.arith_laws.proofs.incrementers_add_one.Goals as goal

pub returns : goal.returns
returns c = incrementers_add_one
