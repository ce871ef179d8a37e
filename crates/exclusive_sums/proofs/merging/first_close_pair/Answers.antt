use Rattle.std.proofs.Common.{◌≡◌, ◌<◌, refl, subst, inl, inr, arith}
use Rattle.std.proofs.lemmas.Bool.{cases_lt}
use Rattle.exclusive_sums.specs.Cubes.{distance_at}
use Rattle.exclusive_sums.proofs.merging.first_close_pair.Goals as goal

pub loop-first-preserved : goal.loop-first-preserved
loop-first-preserved c = λ i j l k n.
    elim (cases_lt i c.loop-first.first) [
      | inl a ↦ c.loop-first.invariant i j a k n
      | inr g ↦
          let here : c.loop-first.first ≡ i = omega arith in
          subst (λ a. 1 < distance_at c.args.cubes.now a j) here (c.in_default.ensures.none refl j (omega arith) n)
    ]
