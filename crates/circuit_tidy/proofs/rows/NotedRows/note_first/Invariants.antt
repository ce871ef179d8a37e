use Rattle.std.proofs.Common.{◌≡◌, ◌+◌, drop, get_or}
use Rattle.circuit_tidy.specs.Elimination.{Rows, first_with}
use Rattle.circuit_tidy.specs.inside.BitRows.{HoldRows}
use Rattle.circuit_tidy.proofs.rows.NotedRows.note_first.Given as goal

abbrev pub invariant-loop-place : goal.invariant-loop-place
invariant-loop-place l =
    (l.self.words.items ≡ l.fn.self.words.items) × (l.self.notes.items ≡ l.fn.self.notes.items)
    × ((rows : Rows) → HoldRows l.lines l.self.words.items rows
    → first_with rows (get_or l.lines l.column 0) (drop (l.column + 1) l.lines) ≡ first_with rows (get_or l.lines l.column 0) (drop l.place l.lines))
