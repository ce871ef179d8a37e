use Rattle.revs_tape.proofs.ClaimLemmas.{claims_are_settled}
use Rattle.revs_tape.proofs.law.each_claim_is_settled.Goals as goal

pub returns : goal.returns
returns c = claims_are_settled
