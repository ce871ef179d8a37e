use Rattle.real_format.proofs.VerdictLemmas.{meanings_are_files}
use Rattle.real_format.proofs.law.meanings_are_files.Goals as goal

pub returns : goal.returns
returns c = meanings_are_files
