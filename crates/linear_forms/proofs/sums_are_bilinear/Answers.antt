use Rattle.linear_forms.proofs.SumLemmas.{bilinear}
use Rattle.linear_forms.proofs.sums_are_bilinear.Goals as goal

pub returns : goal.returns
returns c = bilinear
