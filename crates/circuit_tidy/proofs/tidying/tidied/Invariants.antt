use Rattle.std.proofs.Common.{length}
use Rattle.circuit_tidy.specs.inside.Work.{Follows}
use Rattle.circuit_tidy.proofs.tidying.tidied.Given as goal

abbrev pub invariant-work : goal.invariant-work
invariant-work l = Follows l.lines l.initial.flips.items l.flips.items

abbrev pub decreases-work : goal.decreases-work
decreases-work l = length l.flips.items
