use Rattle.std.proofs.Common.{◌≡◌, ◌+◌, ◌-◌, ◌≤◌, length, drop}
use Rattle.revs_tape.specs.inside.Aligned.{aligned}
use Rattle.exclusive_sums.specs.inside.Merging.{by_input, differences}
use Rattle.exclusive_sums.proofs.cube.distance.Given as goal

abbrev pub invariant-loop-i : goal.invariant-loop-i
invariant-loop-i l = record {
  in_left : l.i ≤ length l.left;
  in_right : l.j ≤ length l.right;
  few : l.count ≤ l.i + l.j;
  left_over : l.count + differences (aligned by_input (drop l.i l.left) (drop l.j l.right)) ≡ differences (aligned by_input l.left l.right);
}

abbrev pub decreases-loop-i : goal.decreases-loop-i
decreases-loop-i l = (length l.left + length l.right) - (l.i + l.j)
