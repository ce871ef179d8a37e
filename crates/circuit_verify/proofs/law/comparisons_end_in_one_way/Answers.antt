use Rattle.circuit_verify.proofs.LawLemmas.{comparisons_end_in_one_way}
use Rattle.circuit_verify.proofs.law.comparisons_end_in_one_way.Goals as goal

pub returns : goal.returns
returns c = comparisons_end_in_one_way
