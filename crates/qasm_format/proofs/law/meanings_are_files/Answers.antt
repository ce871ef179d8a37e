use Rattle.qasm_format.proofs.OneReadingLemmas.{meanings_are_files}
use Rattle.qasm_format.proofs.law.meanings_are_files.Goals as goal

pub returns : goal.returns
returns c = meanings_are_files
