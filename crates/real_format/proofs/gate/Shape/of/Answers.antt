use Rattle.std.proofs.Common.{arith}
use Rattle.real_format.proofs.CutLemmas.{some_left}
use Rattle.real_format.proofs.ShapeLemmas.{shape_is}
use Rattle.real_format.proofs.gate.Shape.of.Goals as goal

pub returns : goal.returns
returns c = shape_is c.args.word.now c.split_at.result.1.now c.in_ok-targets.targets c.in_ok-count.count (some_left _ _ c.is_empty.ensures c.if-is_empty.false)
    c.in_ok-targets.ensures c.split_at.ensures.back (omega arith) c.in_ok-count.ensures (omega arith)
