use Rattle.sum_cuts.specs.Cuts.{AreOverCut}
use Rattle.cut_sweeping.proofs.regions.join_all.Given as goal

abbrev pub invariant-loop-member : goal.invariant-loop-member
invariant-loop-member l = AreOverCut l.products l.region.cut
