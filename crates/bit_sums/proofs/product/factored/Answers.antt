use Rattle.std.proofs.Common.{◌∙◌, arith}
use Rattle.bit_sums.proofs.PartLemmas.{factored_by, factor_of_sum}
use Rattle.bit_sums.proofs.product.factored.Goals as goal

pub multiplied-requires-clause-a : goal.multiplied-requires-clause-a
multiplied-requires-clause-a c =
    rw c.deref.ensures.value (factor_of_sum _ _ _ c.in_ok-sum.ensures c.requires.a.rises c.requires.b.rises (omega arith))

pub returns-clause-some : goal.returns-clause-some
returns-clause-some c =
    factored_by _ _ _ c.deref.result.now _ _ (c.deref.ensures.value ∙ c.in_ok-sum.ensures) (omega arith) c.in_ok-part.ensures
