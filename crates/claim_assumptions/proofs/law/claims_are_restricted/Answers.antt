use Rattle.claim_assumptions.proofs.MetLemmas.{claims_are_as_many, claims_are_restricted}
use Rattle.claim_assumptions.proofs.law.claims_are_restricted.Goals as goal

pub returns-clause-claims : goal.returns-clause-claims
returns-clause-claims c = claims_are_restricted

pub returns-clause-count : goal.returns-clause-count
returns-clause-count c = claims_are_as_many
