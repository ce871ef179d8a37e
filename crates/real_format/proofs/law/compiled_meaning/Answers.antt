use Rattle.real_format.proofs.MeaningLemmas.{compiled_has_meaning}
use Rattle.real_format.proofs.law.compiled_meaning.Goals as goal

pub returns : goal.returns
returns c = compiled_has_meaning
