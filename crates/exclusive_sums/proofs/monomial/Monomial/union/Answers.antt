use Rattle.std.proofs.Common.{◌⊎◌, ◌≤◌, ℕ, [], ◌∷◌, ◌++◌, length, refl, ap, ◌∙◌, inl, inr, arith}
use Rattle.std.proofs.lemmas.List.{take_rest, append_assoc}
use Rattle.exclusive_sums.proofs.PolyLemmas.{union_left_over}
use Rattle.list_facts.proofs.CutLemmas.{at_most_one, made_whole}
use Rattle.exclusive_sums.proofs.StepLemmas.{union_step}
use Rattle.exclusive_sums.proofs.monomial.Monomial.union.Goals as goal
use Rattle.exclusive_sums.proofs.monomial.Monomial.union.Goals.{then-loop-i-test+else-j-right, else-loop-i-test}

pub returns : goal.returns
returns c =
    let ended : (length c.inputs-left.result.now ≤ c.loop-i.i) ⊎ (length c.inputs-right.result.now ≤ c.loop-i.j) =
    elim c.loop-i-test.branch [ then-loop-i-test+else-j-right w ↦ inr (omega arith) | else-loop-i-test w ↦ inl (omega arith) ] in
    rw (
      c.new.ensures,
      c.in_ok-extend_from_slice-2.ensures.items,
      c.in_ok-extend_from_slice.ensures.items,
      take_rest c.inputs-left.result.now c.loop-i.i,
      take_rest c.inputs-right.result.now c.loop-i.j,
      append_assoc,
    )
    (made_whole c.loop-i.invariant (union_left_over c.inputs-left.result.now c.inputs-right.result.now c.loop-i.i c.loop-i.j ended)
    ∙ rw (c.inputs-left.ensures, c.inputs-right.ensures) refl)

pub loop-i-preserved : goal.loop-i-preserved
loop-i-preserved c =
    let more = c.in_ok-push.ensures.items in
    record {
      in_left = at_most_one _ _ _ _ c.loop-i-test.true c.from-i.ensures;
      in_right = at_most_one _ _ _ _ c.if-j-right.true c.from-j.ensures;
      left_over = union_step _ _ _ _ _ _ _ _ _ c.loop-i-test.true c.if-j-right.true c.from-i.ensures c.from-j.ensures
          (more ∙ ap (λ (n : ℕ). c.loop-i.inputs.items ++ n ∷ []) c.min.ensures) c.loop-i.invariant.left_over;
    }
