use Rattle.flip_lists.proofs.LookLemmas.{IsNoting}
use Rattle.flip_lists.proofs.looks.Latest.note_all.Given as goal

abbrev pub invariant-loop-place : goal.invariant-loop-place
invariant-loop-place l = IsNoting l.walked l.fn.self.noted l.place l.fn.self l.self
