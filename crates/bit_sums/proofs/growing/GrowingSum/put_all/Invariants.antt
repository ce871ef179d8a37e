use Rattle.bit_sums.specs.inside.Putting.{ArePut}
use Rattle.bit_sums.proofs.growing.GrowingSum.put_all.Given as goal

abbrev pub invariant-loop-product : goal.invariant-loop-product
invariant-loop-product l = ArePut l.initial.self l.yielded l.self
