use Rattle.claim_assumptions.specs.inside.Links.{IsCopiedSoFar}
use Rattle.claim_assumptions.proofs.building.bare.Given as goal

abbrev pub invariant-loop-entry : goal.invariant-loop-entry
invariant-loop-entry l = IsCopiedSoFar l.tape l.entry-index l.made
