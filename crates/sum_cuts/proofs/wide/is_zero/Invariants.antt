use Rattle.sum_cuts.specs.inside.Wide.{AreWide}
use Rattle.sum_cuts.proofs.wide.is_zero.Given as goal

abbrev pub invariant-loop-step : goal.invariant-loop-step
invariant-loop-step l = AreWide l.products l.cut
