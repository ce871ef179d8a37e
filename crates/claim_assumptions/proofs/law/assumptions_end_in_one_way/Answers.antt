use Rattle.claim_assumptions.proofs.OneWayLemmas.{assumptions_end_in_one_way}
use Rattle.claim_assumptions.proofs.law.assumptions_end_in_one_way.Goals as goal

pub returns : goal.returns
returns c = assumptions_end_in_one_way
