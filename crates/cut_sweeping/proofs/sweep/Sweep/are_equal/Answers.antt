use Rattle.std.proofs.Common.{Bool, IfSome, Option, subst, sym}
use Rattle.linear_forms.specs.Forms.{IsConstant}
use Rattle.product_sums.specs.Products.{ProductsView}
use Rattle.sum_cuts.specs.Cuts.{AreEqualSums}
use Rattle.cut_sweeping.proofs.SweepLemmas.{equal_if_none, equal_if_zero}
use Rattle.cut_sweeping.proofs.sweep.Sweep.are_equal.Goals as goal

pub returns-in-Some-clause-equal : goal.returns-in-Some-clause-equal
returns-in-Some-clause-equal c none =
    equal_if_none c.args.self.now c.args.first.now c.args.second.now c.in_ok-first.first c.in_ok-second.second c.in_ok-sum.sum c.in-Some.one
    c.in_ok-first.ensures c.in_ok-second.ensures c.in_ok-sum.ensures
    (subst (λ (found : Option Bool). IfSome found (λ one. IsConstant one c.in_ok-sum.sum)) c.in-Some.is c.as_constant.ensures) none

pub returns-clause-equal : goal.returns-clause-equal
returns-clause-equal c is =
    let t = c.self.inside.products in
    let first = subst (λ (s : ProductsView). AreEqualSums s c.args.first.now c.in_ok-first.first) (sym c.self.view_is) c.in_ok-first.ensures in
    let second = subst (λ (s : ProductsView). AreEqualSums s c.args.second.now c.in_ok-second.second) (sym c.self.view_is) c.in_ok-second.ensures in
    equal_if_zero t c.args.first.now c.args.second.now c.in_ok-first.first c.in_ok-second.second c.in_ok-sum.sum first second c.in_ok-sum.ensures
    (c.in_ok-is_zero.ensures.zero is)
