use Rattle.claim_assumptions.proofs.SettlingLemmas.{settling_is_meant}
use Rattle.claim_assumptions.proofs.law.settling_is_meant.Goals as goal

pub returns : goal.returns
returns c = settling_is_meant
