use Rattle.std.proofs.lemmas.Result.{IfOk-weaker}
use Rattle.single_products.proofs.RenumberingLemmas.{product_renumbered}
use Rattle.single_products.proofs.renumbering.renumbered_product.Goals as goal

pub returns : goal.returns
returns c =
    let first = rw c.first.ensures.first at c.in_ok-first.ensures in
    let second = rw c.second.ensures.second at c.in_ok-second.ensures in
    IfOk-weaker c.times.result _ _ (λ sum is. product_renumbered _ _ _ _ sum first second is) c.times.ensures
