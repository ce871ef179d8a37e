use Rattle.claim_check.proofs.OneWayLemmas.{claims_end_in_one_way}
use Rattle.claim_check.proofs.law.claims_end_in_one_way.Goals as goal

pub returns : goal.returns
returns c = claims_end_in_one_way
