use Rattle.sum_cuts.proofs.WideLemmas.{IsBegun}
use Rattle.sum_cuts.proofs.wide.WideCut.new.Given as goal

abbrev pub invariant-loop-place : goal.invariant-loop-place
invariant-loop-place l = IsBegun l.products l.sums.items l.diagram l.functions.items
