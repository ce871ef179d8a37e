use Rattle.std.proofs.Common.{◌⊎◌, ◌≤◌, length, inl, inr, arith}
use Rattle.std.proofs.lemmas.List.{append_assoc, take_rest}
use Rattle.list_facts.proofs.CutLemmas.{at_most_one, made_whole}
use Rattle.exclusive_sums.proofs.PolyLemmas.{sum_left_over}
use Rattle.exclusive_sums.proofs.StepLemmas.{exclusive_sum_step}
use Rattle.exclusive_sums.proofs.monomial.exclusive_sum.Goals as goal
use Rattle.exclusive_sums.proofs.monomial.exclusive_sum.Goals.{then-loop-i-test+else-j-right, else-loop-i-test}

pub returns : goal.returns
returns c =
    let ended : (length c.args.left.now ≤ c.loop-i.i) ⊎ (length c.args.right.now ≤ c.loop-i.j) =
    elim c.loop-i-test.branch [ then-loop-i-test+else-j-right w ↦ inr (omega arith) | else-loop-i-test w ↦ inl (omega arith) ] in
    rw (
      c.in_ok-push_copies-2.ensures,
      c.in_ok-push_copies.ensures,
      take_rest c.args.left.now c.loop-i.i,
      take_rest c.args.right.now c.loop-i.j,
      append_assoc,
    ) (made_whole c.loop-i.invariant (sum_left_over c.args.left.now c.args.right.now c.loop-i.i c.loop-i.j ended))

pub loop-i-preserved : goal.loop-i-preserved
loop-i-preserved c = record {
  in_left = at_most_one _ _ _ _ c.loop-i-test.true c.from-i.ensures;
  in_right = at_most_one _ _ _ _ c.if-j-right.true c.from-j.ensures;
  left_over = exclusive_sum_step _ _ _ _ _ _ _ _ _ _ _ _ c.loop-i-test.true c.if-j-right.true c.index-left-i.is c.index-right-j.is c.order-order.ensures
      (rw c.is_le.ensures at c.from-i.ensures) (rw c.is_ge.ensures at c.from-j.ensures) c.in_ok-push_lesser.ensures c.loop-i.invariant.left_over;
}
