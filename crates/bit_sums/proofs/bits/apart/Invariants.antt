use Rattle.std.proofs.Common.{◌+◌, ◌-◌, length}
use Rattle.list_facts.proofs.CutLemmas.{IsMadeSoFar}
use Rattle.bit_sums.specs.Bits.{apart}
use Rattle.bit_sums.proofs.bits.apart.Given as goal

abbrev pub invariant-loop-i : goal.invariant-loop-i
invariant-loop-i l = IsMadeSoFar apart l.left l.right l.bits.items l.i l.j

abbrev pub decreases-loop-i : goal.decreases-loop-i
decreases-loop-i l = (length l.left + length l.right) - (l.i + l.j)
