use Rattle.program_texts.proofs.EvalLemmas.{one_outcome}
use Rattle.program_texts.proofs.eval.one_outcome.Goals as goal

pub returns : goal.returns
returns c = one_outcome
