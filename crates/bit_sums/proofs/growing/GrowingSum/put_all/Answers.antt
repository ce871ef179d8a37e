use Rattle.bit_sums.proofs.TotalLemmas.{none_put, one_more_put}
use Rattle.bit_sums.proofs.growing.GrowingSum.put_all.Goals as goal

pub loop-product-init : goal.loop-product-init
loop-product-init c = none_put c.args.self.now

pub loop-product-preserved : goal.loop-product-preserved
loop-product-preserved c =
    one_more_put c.args.self.now c.loop-product.self c.put.new.self c.loop-product.yielded c.in-Some.product c.loop-product.invariant c.in_ok-put.ensures
