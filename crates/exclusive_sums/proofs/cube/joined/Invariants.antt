use Rattle.std.proofs.Common.{◌+◌, ◌-◌, length}
use Rattle.list_facts.proofs.CutLemmas.{IsMadeSoFar}
use Rattle.revs_tape.specs.inside.Aligned.{aligned}
use Rattle.exclusive_sums.specs.inside.Merging.{by_input, thirds}
use Rattle.exclusive_sums.proofs.cube.joined.Given as goal

abbrev pub invariant-loop-i : goal.invariant-loop-i
invariant-loop-i l = IsMadeSoFar (λ left right. thirds (aligned by_input left right)) l.left l.right l.literals.items l.i l.j

abbrev pub decreases-loop-i : goal.decreases-loop-i
decreases-loop-i l = (length l.left + length l.right) - (l.i + l.j)
