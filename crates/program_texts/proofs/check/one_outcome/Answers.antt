use Rattle.program_texts.proofs.CheckLemmas.{one_outcome}
use Rattle.program_texts.proofs.check.one_outcome.Goals as goal

pub returns : goal.returns
returns c = one_outcome
