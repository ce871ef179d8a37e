use Rattle.sum_cuts.proofs.CutLemmas.{AreFunctions}
use Rattle.sum_cuts.proofs.cut.Cut.new.Given as goal

abbrev pub invariant-loop-place : goal.invariant-loop-place
invariant-loop-place l = AreFunctions l.sums.items l.functions.items
