use Rattle.cut_sweeping.specs.inside.Cuts.{HoldsCuts}
use Rattle.cut_sweeping.proofs.cuts.Cuts.product.Given as goal

abbrev pub invariant-loop-place : goal.invariant-loop-place
invariant-loop-place l = HoldsCuts l.products l.self
