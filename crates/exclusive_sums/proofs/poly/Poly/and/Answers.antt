use Rattle.std.proofs.Common.{refl, arith}
use Rattle.std.proofs.lemmas.List.Sorted.{length_permutation}
use Rattle.exclusive_sums.proofs.MonomialSetLemmas.{up_to_from_product, up_to_from_sorted, over_sorted}
use Rattle.exclusive_sums.proofs.poly.Poly.and.Goals as goal

pub returns-then-len-gt-MOST_MONOMIALS-clause-polynomial : goal.returns-then-len-gt-MOST_MONOMIALS-clause-polynomial
returns-then-len-gt-MOST_MONOMIALS-clause-polynomial c =
    up_to_from_product _ c.args.self.now c.args.other.now c.in_ok-product.product.keys _ c.in_ok-product.ensures.product
    (omega (arith, c.len.ensures.len, c.if-len-gt-MOST_MONOMIALS.true)) refl

pub invariant_of-result : goal.invariant_of-result
invariant_of-result c = (
  c.in_ok-monomials.ensures.polynomial,
  omega
      (arith, c.len.ensures.len, c.if-len-gt-MOST_MONOMIALS.false, length_permutation _ _ c.in_ok-monomials.ensures.permutation),
)

pub returns-clause-polynomial : goal.returns-clause-polynomial
returns-clause-polynomial c =
    up_to_from_sorted _ c.args.self.now c.args.other.now c.in_ok-product.product.keys c.in_ok-monomials.monomials.items _ c.in_ok-product.ensures.product
    (omega (arith, c.len.ensures.len, c.if-len-gt-MOST_MONOMIALS.false))
    c.in_ok-monomials.ensures.permutation c.in_ok-monomials.ensures.polynomial refl

pub returns-clause-inputs : goal.returns-clause-inputs
returns-clause-inputs c =
    over_sorted c.args.self.now c.args.other.now c.in_ok-product.product.keys c.in_ok-monomials.monomials.items c.in_ok-product.ensures.product
    c.in_ok-monomials.ensures.permutation
