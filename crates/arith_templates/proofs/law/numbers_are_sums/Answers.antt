use Rattle.arith_templates.proofs.NumberLemmas.{numbers_are_sums}
use Rattle.arith_templates.proofs.law.numbers_are_sums.Goals as goal

pub returns : goal.returns
returns c = numbers_are_sums
