use Rattle.claim_assumptions.specs.inside.Links.{AreGrantedSoFar}
use Rattle.claim_assumptions.proofs.building.grant.Given as goal

abbrev pub invariant-loop-claim : goal.invariant-loop-claim
invariant-loop-claim l = AreGrantedSoFar l.writes l.initial.made l.claims l.claim-index l.made
