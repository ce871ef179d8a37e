use Rattle.claim_check.specs.inside.Labels.{AreSound, HaveClaims, ArePassedOn, claims_of}
use Rattle.claim_check.proofs.labels.label_operands.Given as goal

abbrev pub invariant-loop-j : goal.invariant-loop-j
invariant-loop-j l = AreSound l.tape l.labels × HaveClaims l.tape (claims_of l.tape) l.labels × ArePassedOn l.tape l.j l.labels
