use Rattle.product_sums.specs.inside.Deriving.{IsCollected}
use Rattle.product_sums.proofs.derive.gather.Given as goal

abbrev pub invariant-loop-place : goal.invariant-loop-place
invariant-loop-place l = IsCollected l.known l.first l.second l.basis l.pairs.items l.sums
