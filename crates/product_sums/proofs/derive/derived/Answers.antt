use Rattle.std.proofs.Common.{ℕ, IfSome, List, Option, length, subst}
use Rattle.linear_forms.specs.declared.pairs.Pair.{Pair}
use Rattle.linear_forms.specs.Pairs.{IsSumOf}
use Rattle.product_sums.specs.declared.derive.Collected.{Collected}
use Rattle.product_sums.specs.inside.Deriving.{IsCollected}
use Rattle.product_sums.proofs.DeriveLemmas.{collected_all}
use Rattle.product_sums.proofs.derive.derived.Goals as goal

pub returns : goal.returns
returns c =
    let known = c.args.known.now in
    let first = c.args.first.now in
    let second = c.args.second.now in
    let basis = c.in_ok-basis.basis in
    let all = c.in-Some.all in
    let factor = c.in-Some-linear_sum.factor in
    let linear = subst (λ (ps : List Pair). IsSumOf (length basis) ps factor) c.deref.ensures.value
    (subst (λ (size : ℕ). IsSumOf size c.deref.result.now factor) c.len.ensures.count (c.linear_sum.ensures factor c.in-Some-linear_sum.is)) in
    let collected = subst (λ (found : Option Collected). IfSome found (λ all. IsCollected known first second basis all.pairs.items all.sums))
    c.in-Some.is c.in_ok-all.ensures in
    collected_all known first second basis all.pairs.items all.sums c.in_ok-form.field-0 c.in_ok-plus.field-0 factor linear
    c.in_ok-form.ensures c.in_ok-plus.ensures collected
