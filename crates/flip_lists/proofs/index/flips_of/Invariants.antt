use Rattle.std.proofs.Common.{◌≡◌, reverse}
use Rattle.flip_lists.specs.inside.Index.{flips_below}
use Rattle.flip_lists.proofs.index.flips_of.Given as goal

abbrev pub invariant-loop-slot : goal.invariant-loop-slot
invariant-loop-slot l = l.flips.items ≡ reverse (flips_below l.slots l.slot-index)
