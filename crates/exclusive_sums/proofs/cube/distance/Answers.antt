use Rattle.std.proofs.Common.{◌⊎◌, ◌≤◌, length, inl, inr, arith}
use Rattle.std.proofs.lemmas.List.{length-drop}
use Rattle.exclusive_sums.proofs.CubeLemmas.{differences-aligned, differences_left_over}
use Rattle.list_facts.proofs.CutLemmas.{at_most_one}
use Rattle.exclusive_sums.proofs.StepLemmas.{differences_step, still_few}
use Rattle.exclusive_sums.proofs.cube.distance.Goals as goal
use Rattle.exclusive_sums.proofs.cube.distance.Goals.{then-loop-i-test+else-j-right, else-loop-i-test}

pub returns : goal.returns
returns c =
    let ended : (length c.args.left.now ≤ c.loop-i.i) ⊎ (length c.args.right.now ≤ c.loop-i.j) =
    elim c.loop-i-test.branch [ then-loop-i-test+else-j-right w ↦ inr (omega arith) | else-loop-i-test w ↦ inl (omega arith) ] in
    let over = differences_left_over c.args.left.now c.args.right.now c.loop-i.i c.loop-i.j ended in
    let rest = rw (over, length-drop c.loop-i.i c.args.left.now, length-drop c.loop-i.j c.args.right.now) at c.loop-i.invariant.left_over in
    omega (arith, rest, differences-aligned c.args.left.now c.args.right.now c.requires.left c.requires.right)

pub loop-i-preserved : goal.loop-i-preserved
loop-i-preserved c =
    record {
      in_left = at_most_one _ _ _ _ c.loop-i-test.true c.from-i.ensures;
      in_right = at_most_one _ _ _ _ c.if-j-right.true c.from-j.ensures;
      few = still_few _ _ _ _ _ _ _ _ _ c.loop-i.invariant.few c.from-i.ensures c.from-j.ensures c.from-count.ensures;
      left_over = differences_step _ _ _ _ _ _ _ _ _ c.loop-i-test.true c.if-j-right.true c.from-i.ensures c.from-j.ensures
          (rw c.ne.ensures at c.from-count.ensures) c.loop-i.invariant.left_over;
    }
