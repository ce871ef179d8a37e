use Rattle.std.proofs.Common.{subst, sym, List}
use Rattle.product_sums.specs.declared.known.Known.{Known}
use Rattle.product_sums.specs.inside.Tables.{IsTable}
use Rattle.product_sums.proofs.RecordLemmas.{begun}
use Rattle.product_sums.proofs.products.Products.new.Goals as goal

pub invariant_of-result : goal.invariant_of-result
invariant_of-result c =
    subst (λ (ks : List Known). IsTable c.args.given ks c.args.given) (sym c.new.ensures.items) (begun c.args.given)
