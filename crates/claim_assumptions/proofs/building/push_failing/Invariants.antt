use Rattle.claim_assumptions.specs.inside.Links.{AreFailingSoFar}
use Rattle.claim_assumptions.proofs.building.push_failing.Given as goal

abbrev pub invariant-loop-claim : goal.invariant-loop-claim
invariant-loop-claim l = AreFailingSoFar l.writes l.met l.initial.made l.claims l.claim-index l.made
