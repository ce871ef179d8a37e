use Rattle.std.proofs.Common.{◌+◌, ◌-◌, length}
use Rattle.linear_forms.proofs.FormLemmas.{IsAddedSoFar}
use Rattle.linear_forms.proofs.form.added.Given as goal

abbrev pub invariant-loop-i : goal.invariant-loop-i
invariant-loop-i l = IsAddedSoFar l.left l.right l.sum.items l.i l.j

abbrev pub decreases-loop-i : goal.decreases-loop-i
decreases-loop-i l = (length l.left + length l.right) - (l.i + l.j)
