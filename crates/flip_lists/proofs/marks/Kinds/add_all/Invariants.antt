use Rattle.std.proofs.Common.{take}
use Rattle.flip_lists.specs.Kinds.{AreAdded}
use Rattle.flip_lists.proofs.marks.Kinds.add_all.Given as goal

abbrev pub invariant-loop-flip : goal.invariant-loop-flip
invariant-loop-flip l = AreAdded (take l.flip-index l.flips) l.initial.self.counts.items l.self.counts.items
