use Rattle.claim_assumptions.specs.inside.Links.{AreMetSoFar}
use Rattle.claim_assumptions.proofs.building.push_met.Given as goal

abbrev pub invariant-loop-claim : goal.invariant-loop-claim
invariant-loop-claim l = AreMetSoFar l.writes l.initial.made l.claims l.claim-index l.made
