use Rattle.std.proofs.Common.{◌≡◌, [], drop}
use Rattle.flip_lists.specs.inside.Index.{IsIndex, flips_in}
use Rattle.flip_lists.specs.Settling.{with_flips}
use Rattle.flip_lists.proofs.index.without_pairs.Given as goal

abbrev pub invariant-loop-flip : goal.invariant-loop-flip
invariant-loop-flip l =
    IsIndex l.lines l.index × (with_flips (drop l.flip-index l.flips) (flips_in l.index.slots.items) ≡ with_flips l.flips [])
