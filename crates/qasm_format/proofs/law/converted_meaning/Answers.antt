use Rattle.qasm_format.proofs.MeaningLemmas.{converted_has_meaning}
use Rattle.qasm_format.proofs.law.converted_meaning.Goals as goal

pub returns : goal.returns
returns c = converted_has_meaning
