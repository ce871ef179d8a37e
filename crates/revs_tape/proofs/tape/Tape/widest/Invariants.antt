use Rattle.std.proofs.Common.{vec_len}
use Rattle.revs_tape.proofs.WidthLemmas.{IsCounted}
use Rattle.revs_tape.proofs.tape.Tape.widest.Given as goal

abbrev pub invariant-loop-is_needed : goal.invariant-loop-is_needed
invariant-loop-is_needed l = IsCounted l.self l.marks.items l.live l.width

abbrev pub decreases-loop-is_needed : goal.decreases-loop-is_needed
decreases-loop-is_needed l = vec_len l.marks
