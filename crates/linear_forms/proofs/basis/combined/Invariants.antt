use Rattle.linear_forms.specs.inside.Combining.{IsCombined}
use Rattle.linear_forms.proofs.basis.combined.Given as goal

abbrev pub invariant-loop-place : goal.invariant-loop-place
invariant-loop-place l = IsCombined l.members l.set l.place l.sum
