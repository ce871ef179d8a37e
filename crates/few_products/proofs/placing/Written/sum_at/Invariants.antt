use Rattle.few_products.specs.inside.Writing.{IsWrittenSum}
use Rattle.few_products.proofs.PlacingLemmas.{with_first}
use Rattle.few_products.proofs.placing.Written.sum_at.Given as goal

abbrev pub invariant-loop-product : goal.invariant-loop-product
invariant-loop-product l = IsWrittenSum (with_first l.product-index l.sum) l.fn.self l.self l.whole
