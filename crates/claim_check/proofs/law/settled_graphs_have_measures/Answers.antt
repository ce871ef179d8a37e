use Rattle.claim_check.proofs.MeasureLemmas.{settled_graphs_have_measures}
use Rattle.claim_check.proofs.law.settled_graphs_have_measures.Goals as goal

pub returns : goal.returns
returns c = settled_graphs_have_measures
