use Rattle.std.proofs.Common.{◌≡◌, ℕ, length, subst, arith}
use Rattle.std.proofs.lemmas.List.{get_or_read}
use Rattle.linear_forms.specs.Bases.{no_form}
use Rattle.linear_forms.specs.inside.Combining.{IsCombined}
use Rattle.linear_forms.proofs.BasisLemmas.{one_combined}
use Rattle.linear_forms.proofs.basis.combined.Goals as goal

pub loop-place-preserved : goal.loop-place-preserved
loop-place-preserved c =
    let member = c.index-members-place.result in
    one_combined c.args.members.now c.args.set c.loop-place.place c.loop-place.sum c.in_ok-sum.sum member
    (get_or_read c.args.members.now c.loop-place.place member c.loop-place-test.true c.index-members-place.is no_form)
    c.in_ok-sum.ensures c.loop-place.invariant

pub returns : goal.returns
returns c =
    let whole : c.loop-place.place ≡ length c.args.members.now = omega (arith, c.loop-place-test.false, c.loop-place.auto.place-end) in
    subst (λ (n : ℕ). IsCombined c.args.members.now c.args.set n c.loop-place.sum) whole c.loop-place.invariant
