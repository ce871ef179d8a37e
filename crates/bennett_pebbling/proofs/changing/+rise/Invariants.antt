use Rattle.std.proofs.Common.{length}
use Rattle.bennett_pebbling.proofs.changing.+rise.Given as goal

abbrev pub decreases-rise : goal.decreases-rise
decreases-rise l = length l.wanted.now
