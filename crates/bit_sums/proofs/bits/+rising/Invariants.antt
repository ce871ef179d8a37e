use Rattle.std.proofs.Common.{length}
use Rattle.bit_sums.proofs.bits.+rising.Given as goal

abbrev pub decreases-rising : goal.decreases-rising
decreases-rising l = length l.bits.now
