use Rattle.std.proofs.Common.{arith}
use Rattle.sum_cuts.proofs.CutLemmas.{sum_over}
use Rattle.sum_cuts.proofs.cut.Cut.with.Goals as goal

pub returns : goal.returns
returns c =
    sum_over c.args.self.now c.args.sum c.index-other.result.now (record { form = c.in_ok-plus.field-0; table = c.plus-2.result }) c.args.place
    (omega (arith, c.if-place-len.false, c.len.ensures)) c.index-other.ensures c.in_ok-plus.ensures c.plus-2.ensures
