use Rattle.std.proofs.Common.{take}
use Rattle.wide_sums.specs.inside.Forms.{AreProductsWord}
use Rattle.wide_sums.proofs.known.word_of_products.Given as goal

abbrev pub invariant-loop-product : goal.invariant-loop-product
invariant-loop-product l = AreProductsWord l.given.axes.now l.given.known.now (take l.product-index l.products) l.sum
