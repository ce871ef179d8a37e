use Rattle.revs_tape.proofs.ClaimFunctionLemmas.{members_are_counted}
use Rattle.revs_tape.proofs.law.claim_functions.Goals as goal

pub returns : goal.returns
returns c = members_are_counted
