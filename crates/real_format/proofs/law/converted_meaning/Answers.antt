use Rattle.real_format.proofs.MeaningLemmas.{converted_has_meaning}
use Rattle.real_format.proofs.law.converted_meaning.Goals as goal

pub returns : goal.returns
returns c = converted_has_meaning
