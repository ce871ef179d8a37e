use Rattle.wide_sums.specs.inside.Rows.{AreAxes}
use Rattle.wide_sums.proofs.axes.axes_of.Given as goal

abbrev pub invariant-loop-place : goal.invariant-loop-place
invariant-loop-place l = AreAxes l.sums l.turn l.axes.items
