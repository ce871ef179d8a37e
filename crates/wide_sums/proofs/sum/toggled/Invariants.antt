use Rattle.std.proofs.Common.{take}
use Rattle.wide_sums.specs.inside.Toggles.{IsToggled}
use Rattle.wide_sums.proofs.sum.toggled.Given as goal

abbrev pub invariant-loop-other : goal.invariant-loop-other
invariant-loop-other l = IsToggled (take l.other-index l.others) l.products l.all.items
