use Rattle.sum_cuts.proofs.CutLemmas.{with_zero}
use Rattle.cut_sweeping.proofs.zeros.Zeros.with_all.Goals as goal

pub loop-place-preserved : goal.loop-place-preserved
loop-place-preserved c t are =
    with_zero t c.args.form.now c.loop-place.sum c.in-Some.zero.now c.in_ok-sum-2.sum (c.in-Some.ensures t are) c.in_ok-sum-2.ensures
    (c.loop-place.invariant t are)
