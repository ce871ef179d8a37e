use Rattle.linear_forms.proofs.SumLemmas.{symmetric}
use Rattle.linear_forms.proofs.symmetric_sums_are_diagonal.Goals as goal

pub returns : goal.returns
returns c = symmetric
