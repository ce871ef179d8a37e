use Rattle.std.proofs.Common.{refl, arith}
use Rattle.flip_lists.proofs.MarkLemmas.{becomes_cleared}
use Rattle.flip_lists.proofs.marks.Marks.clear.Goals as goal

pub returns-clause-notes : goal.returns-clause-notes
returns-clause-notes c =
    becomes_cleared c.args.self.now _ c.loop-at.at c.loop-at.invariant.words (omega arith) c.clear.ensures.items c.loop-at.invariant.passed refl
