use Rattle.sum_cuts.proofs.CutLemmas.{nothing_over}
use Rattle.sum_cuts.proofs.cut.Cut.sum.Goals as goal

pub loop-place-init : goal.loop-place-init
loop-place-init c = nothing_over c.args.self.now (record { form = c.constant.result; table = c.none.result }) c.none.ensures c.constant.ensures
