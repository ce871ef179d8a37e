use Rattle.few_products.proofs.definitions.is_known_product.Goals as goal

pub returns : goal.returns
returns c = λ yes. record {
  first = rw c.first.ensures at (c.are_known.ensures c.if-not-are_known.false);
  second = rw c.second.ensures at (c.are_known-2.ensures yes);
}
