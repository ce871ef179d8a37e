use Rattle.sum_cuts.proofs.CutLemmas.{with_zero}
use Rattle.cut_sweeping.proofs.zeros.Zeros.normal.Goals as goal

pub loop-step-preserved : goal.loop-step-preserved
loop-step-preserved c t are =
    with_zero t c.args.form.now c.loop-step.sum c.in-Some.zero.now c.in_ok-sum-2.sum (c.in-Some.ensures t are) c.in_ok-sum-2.ensures
    (c.loop-step.invariant t are)
