use Rattle.arith_templates.proofs.NumberLemmas.{digits_are_binary}
use Rattle.arith_templates.proofs.law.digits_are_binary.Goals as goal

pub returns : goal.returns
returns c = digits_are_binary
