use Rattle.std.proofs.Common.{IfSome, Option, subst}
use Rattle.bit_sums.specs.Growing.{FactorView}
use Rattle.few_products.specs.inside.Writing.{IsFactorAt, IsWrittenFactor}
use Rattle.few_products.proofs.PlacingLemmas.{kept_further, of_first, product_written, still_ready}
use Rattle.few_products.proofs.placing.Written.product_at.Goals as goal

pub factor_at-requires-2 : goal.factor_at-requires-2
factor_at-requires-2 c =
    let P = IsWrittenFactor c.first.result.now c.args.self.now c.factor_at.new.self in
    let one = subst (λ (found : Option FactorView). IfSome found P) c.in-Some.is c.in_ok-first.ensures in still_ready _ _ one.0 one.1.still

pub returns : goal.returns
returns c =
    let old = c.args.self.now in
    let mid = c.factor_at.new.self in
    let new = c.factor_at-2.new.self in
    let P = IsWrittenFactor c.first.result.now old mid in
    let Q = IsWrittenFactor c.second.result.now mid new in
    let one = subst (λ (found : Option FactorView). IfSome found P) c.in-Some.is c.in_ok-first.ensures in
    let two = subst (λ (found : Option FactorView). IfSome found Q) c.in-Some-2.is c.in_ok-second.ensures in
    let behind = of_first (λ n places. IsFactorAt n places c.second.result.now mid.nodes.keys new.nodes.keys c.in-Some-2.second) old mid one.0 two.1 in (
      kept_further old mid new one.0 two.0,
      product_written _ _ _ _ _ _ _ _ _ c.requires (rw c.first.ensures at one.1) (rw c.second.ensures at behind) c.in_ok-times.ensures,
    )
