use Rattle.flip_lists.proofs.MarkLemmas.{ArePassed}
use Rattle.flip_lists.proofs.marks.Marks.free_behind.Given as goal

abbrev pub invariant-loop-other : goal.invariant-loop-other
invariant-loop-other l = ArePassed l.fn.flip l.place l.walked l.fn.self l.passed l.other-index l.self
