use Rattle.std.proofs.Common.{◌≡◌, ◌+◌, drop}
use Rattle.revs_tape.specs.inside.Marks.{marked, with_marks}
use Rattle.revs_tape.proofs.width.mark_all.Given as goal

abbrev pub invariant-loop-made : goal.invariant-loop-made
invariant-loop-made l =
    (with_marks l.marks (drop l.made-index l.all) ≡ with_marks l.initial.marks l.all)
    × (marked l.initial.marks + l.added ≡ marked l.marks)
