use Rattle.std.proofs.lemmas.Result.{IfOk-weaker}
use Rattle.wide_sums.proofs.RowLemmas.{vanishes_in}
use Rattle.wide_sums.proofs.window.vanishes_in.Goals as goal

pub returns : goal.returns
returns c = IfOk-weaker c.vanishes_over.result _ _ (λ found over yes. let here = over yes in vanishes_in _ _ _ _ _
    (rw c.deref.ensures.value at c.in_ok-axes.ensures) (rw c.deref-3.ensures.value at here)) c.vanishes_over.ensures
