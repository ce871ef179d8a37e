use Rattle.std.proofs.Common.{get_or, take}
use Rattle.circuit_tidy.specs.Elimination.{second_step}
use Rattle.circuit_tidy.specs.inside.BitRows.{IsNoted}
use Rattle.circuit_tidy.proofs.rows.NotedRows.note_second.Given as goal

abbrev pub invariant-loop-place : goal.invariant-loop-place
invariant-loop-place l =
    IsNoted l.lines l.fn.self.words.items l.self.words.items l.fn.self.notes.items l.self.notes.items
    (λ rows. second_step rows (get_or l.lines l.column 0) (take l.place l.lines))
