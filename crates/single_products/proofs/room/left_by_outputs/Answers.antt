use Rattle.std.proofs.Common.{ap, arith, length, refl}
use Rattle.std.proofs.lemmas.Option.{slice_get_read}
use Rattle.single_products.proofs.RoomLemmas.{left_done, left_less}
use Rattle.single_products.proofs.room.left_by_outputs.Goals as goal

pub loop-sum-init : goal.loop-sum-init
loop-sum-init c = omega arith

pub loop-sum-preserved : goal.loop-sum-preserved
loop-sum-preserved c =
    left_less c.args.sums.now c.loop-sum.sum-index c.sum-item.result _ c.loop-sum.left _ _
    (slice_get_read c.args.sums.now (length c.args.sums.now) c.loop-sum.sum-index _ refl c.loop-sum-test.true c.sum-item.is) (ap length c.products.ensures)
    c.loop-sum.invariant c.in_ok-left.ensures

pub returns : goal.returns
returns c = left_done c.args.sums.now c.loop-sum.sum-index _ _ (omega (arith, c.loop-sum-test.false, c.loop-sum.auto.sum-index-end)) c.loop-sum.invariant
