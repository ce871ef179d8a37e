use Rattle.qasm_format.proofs.MeaningLemmas.{compiled_has_meaning}
use Rattle.qasm_format.proofs.law.compiled_meaning.Goals as goal

pub returns : goal.returns
returns c = compiled_has_meaning
