use Rattle.std.proofs.Common.{rules, ◌≤◌, IfOk, length, subst}
use Rattle.std.proofs.lemmas.Result.{IfOk-weaker}
use Rattle.exclusive_sums.specs.inside.Products.{IsProduct}
use Rattle.exclusive_sums.proofs.MonomialSetLemmas.{few_from_product}
use Rattle.exclusive_sums.proofs.poly.Poly.multiplied.Goals as goal

pub returns-clause-few : goal.returns-clause-few
returns-clause-few c =
    let left : length c.args.self.now ≤ 64 = subst (λ p. length p ≤ 64) c.self.view_is c.self.invariant.1 in
    let right : length c.args.other.now ≤ 64 = subst (λ p. length p ≤ 64) c.other.view_is c.other.invariant.1 in
    let product : IfOk c.product.result (λ product. IsProduct c.args.self.now c.args.other.now product.keys) = search rules in
    IfOk-weaker c.product.result _ (λ product. length product.keys ≤ 4096)
    (λ product h. few_from_product 64 c.args.self.now c.args.other.now product.keys h left right) product
