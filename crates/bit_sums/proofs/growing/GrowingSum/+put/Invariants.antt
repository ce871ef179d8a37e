use Rattle.std.proofs.Common.{length}
use Rattle.bit_sums.proofs.growing.GrowingSum.+put.Given as goal

abbrev pub decreases-put : goal.decreases-put
decreases-put l = length l.self.now.products
