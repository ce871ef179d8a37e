use Rattle.std.proofs.lemmas.Result.{IfOk-weaker}
use Rattle.cut_sweeping.proofs.SweepLemmas.{added_zero}
use Rattle.cut_sweeping.proofs.zeros.Zeros.leaving.Goals as goal

pub returns : goal.returns
returns c =
    IfOk-weaker c.plus.result _ _
    (λ zero is t are. added_zero t c.args.sum.now c.in_ok-begun.begun c.in_ok-normal.normal zero (c.in_ok-begun.ensures t are) (c.in_ok-normal.ensures t are) is)
    c.plus.ensures
