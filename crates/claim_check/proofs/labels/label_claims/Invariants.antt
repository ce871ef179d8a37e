use Rattle.claim_check.specs.inside.Labels.{AreSound, HaveClaims}
use Rattle.claim_check.proofs.labels.label_claims.Given as goal

abbrev pub invariant-loop-number : goal.invariant-loop-number
invariant-loop-number l = AreSound l.tape l.labels × HaveClaims l.tape l.number l.labels
