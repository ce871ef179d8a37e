use Rattle.std.proofs.Common.{length}
use Rattle.bennett_pebbling.proofs.changing.+change.Given as goal

abbrev pub decreases-change : goal.decreases-change
decreases-change l = length l.wanted.now
