use Rattle.claim_assumptions.proofs.MetLemmas.{assumptions_are_met}
use Rattle.claim_assumptions.proofs.law.assumptions_are_met.Goals as goal

pub returns : goal.returns
returns c = assumptions_are_met
