use Rattle.sum_cuts.specs.inside.Wide.{AreWideWith}
use Rattle.sum_cuts.proofs.wide.WideCut.sum.Given as goal

abbrev pub invariant-loop-place : goal.invariant-loop-place
invariant-loop-place l = AreWideWith l.products l.self l.sum
