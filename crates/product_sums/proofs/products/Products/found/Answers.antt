use Rattle.std.proofs.Common.{IfSome, Option, subst}
use Rattle.linear_forms.specs.Forms.{FormView}
use Rattle.product_sums.specs.Products.{IsProduct}
use Rattle.product_sums.proofs.products.Products.found.Goals as goal

pub keep-requires : goal.keep-requires
keep-requires c =
    let now = c.searched.new.self in
    let first = c.args.first.now in
    let second = c.args.second.now in
    subst (λ (found : Option FormView). IfSome found (IsProduct now first second)) c.in-Some-2.is c.in_ok-value-2.ensures.product
