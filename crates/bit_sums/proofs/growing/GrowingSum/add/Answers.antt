use Rattle.std.proofs.lemmas.Result.{IfOk-weaker}
use Rattle.bit_sums.proofs.TotalLemmas.{turned}
use Rattle.bit_sums.proofs.growing.GrowingSum.add.Goals as goal

pub returns-then-len : goal.returns-then-len
returns-then-len c = IfOk-weaker c.with.result _ _ (λ sum s. turned c.args.self c.args.other sum s) c.with.ensures
