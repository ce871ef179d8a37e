use Rattle.sum_cuts.proofs.CutLemmas.{constant_one}
use Rattle.sum_cuts.proofs.cut.one.Goals as goal

pub returns : goal.returns
returns c sums few = constant_one sums (record { form = c.constant.result; table = c.one.result }) few c.one.ensures c.constant.ensures
