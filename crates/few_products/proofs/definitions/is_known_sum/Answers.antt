use Rattle.few_products.proofs.definitions.is_known_sum.Goals as goal

pub returns : goal.returns
returns c = λ yes. record {
  bits = rw c.bits.ensures at (c.are_known.ensures c.if-not-are_known.false);
  products = rw c.products.ensures at (c.are_known_products.ensures yes);
}
