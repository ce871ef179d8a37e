use Rattle.std.proofs.Common.{◌≡◌, ◌⊎◌, ◌≤◌, length, refl, sym, subst, inl, inr, ◌∙◌, arith}
use Rattle.std.proofs.lemmas.List.{take_rest, append_assoc}
use Rattle.revs_tape.specs.inside.Aligned.{aligned}
use Rattle.exclusive_sums.specs.Cubes.{IsJoined}
use Rattle.exclusive_sums.specs.inside.Merging.{by_input, thirds}
use Rattle.exclusive_sums.proofs.CubeLemmas.{IsJoined-thirds, thirds_left_over}
use Rattle.list_facts.proofs.CutLemmas.{at_most_one, made_whole}
use Rattle.exclusive_sums.proofs.StepLemmas.{thirds_step}
use Rattle.exclusive_sums.proofs.cube.joined.Goals as goal
use Rattle.exclusive_sums.proofs.cube.joined.Goals.{then-loop-i-test+else-j-right, else-loop-i-test}

literals_are : (c : goal.In_ok-put_flipped-2) → c.put_flipped-2.new.literals.items ≡ thirds (aligned by_input c.args.left.now c.args.right.now)
literals_are c =
    let ended : (length c.literals-left.result.now ≤ c.loop-i.i) ⊎ (length c.literals-right.result.now ≤ c.loop-i.j) =
    elim c.loop-i-test.branch [ then-loop-i-test+else-j-right w ↦ inr (omega arith) | else-loop-i-test w ↦ inl (omega arith) ] in
    rw (
      c.in_ok-put_flipped-2.ensures,
      c.in_ok-put_flipped.ensures,
      take_rest c.literals-left.result.now c.loop-i.i,
      take_rest c.literals-right.result.now c.loop-i.j,
      append_assoc,
    )
    (made_whole c.loop-i.invariant (thirds_left_over c.literals-left.result.now c.literals-right.result.now c.loop-i.i c.loop-i.j ended)
    ∙ rw (c.literals-left.ensures.literals, c.literals-right.ensures.literals) refl)

pub returns : goal.returns
returns c =
    subst (IsJoined c.args.left.now c.args.right.now) (sym (literals_are c))
    (IsJoined-thirds c.args.left.now c.args.right.now c.literals-left.ensures.cube c.literals-right.ensures.cube)

pub invariant_of-result : goal.invariant_of-result
invariant_of-result c = let whole = returns c in whole.is_cube

pub loop-i-preserved : goal.loop-i-preserved
loop-i-preserved c =
    let more = c.in_ok-put.ensures in
    record {
      in_left = at_most_one _ _ _ _ c.loop-i-test.true c.from-i.ensures;
      in_right = at_most_one _ _ _ _ c.if-j-right.true c.from-j.ensures;
      left_over = thirds_step _ _ _ _ _ _ _ _ _ c.loop-i-test.true c.if-j-right.true c.from-i.ensures c.from-j.ensures
          (rw c.third.ensures at more) c.loop-i.invariant.left_over;
    }
