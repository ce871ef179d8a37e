use Rattle.std.proofs.Common.{◌+◌, ◌-◌, length}
use Rattle.list_facts.proofs.CutLemmas.{IsMadeSoFar}
use Rattle.revs_tape.specs.inside.Sums.{exclusive_sum_of}
use Rattle.exclusive_sums.proofs.monomial.exclusive_sum.Given as goal

abbrev pub invariant-loop-i : goal.invariant-loop-i
invariant-loop-i l = IsMadeSoFar exclusive_sum_of l.left l.right l.sum.items l.i l.j

abbrev pub decreases-loop-i : goal.decreases-loop-i
decreases-loop-i l = (length l.left + length l.right) - (l.i + l.j)
