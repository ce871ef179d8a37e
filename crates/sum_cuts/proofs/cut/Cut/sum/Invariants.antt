use Rattle.sum_cuts.specs.inside.Functions.{IsOver}
use Rattle.sum_cuts.proofs.cut.Cut.sum.Given as goal

abbrev pub invariant-loop-place : goal.invariant-loop-place
invariant-loop-place l = IsOver l.self l.sum
