use Rattle.std.proofs.Common.{Bool, IfSome, Option, subst}
use Rattle.linear_forms.specs.Forms.{IsConstant}
use Rattle.product_sums.proofs.RecordLemmas.{scaled_first, scaled_second}
use Rattle.product_sums.proofs.find.recalled.Goals as goal

pub returns-in-Some : goal.returns-in-Some
returns-in-Some c =
    let first = c.args.first.now in
    scaled_first c.args.known.now first c.args.second.now c.in_ok-scaled.field-0 c.in-Some.one
    (subst (λ (found : Option Bool). IfSome found (λ one. IsConstant one first)) c.in-Some.is c.as_constant.ensures) c.in_ok-scaled.ensures

pub returns-in-Some-as_constant : goal.returns-in-Some-as_constant
returns-in-Some-as_constant c =
    let second = c.args.second.now in
    scaled_second c.args.known.now c.args.first.now second c.in_ok-scaled-2.field-0 c.in-Some-as_constant.one
    (subst (λ (found : Option Bool). IfSome found (λ one. IsConstant one second)) c.in-Some-as_constant.is c.as_constant-2.ensures)
    c.in_ok-scaled-2.ensures
