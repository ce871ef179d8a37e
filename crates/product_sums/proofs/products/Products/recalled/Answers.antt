use Rattle.product_sums.proofs.RecordLemmas.{found_in}
use Rattle.product_sums.proofs.products.Products.recalled.Goals as goal

pub returns-clause-product : goal.returns-clause-product
returns-clause-product c =
    found_in c.self.inside.given c.self.inside.atoms c.self.inside.known.items _ c.args.first.now c.args.second.now c.recalled.result c.self.invariant
    c.deref.ensures.value c.recalled.ensures
