use Rattle.claim_check.proofs.MeasureLemmas.{tapes_have_measures}
use Rattle.claim_check.proofs.law.tapes_have_measures.Goals as goal

pub returns : goal.returns
returns c = tapes_have_measures
