use Rattle.std.proofs.Common.{map}
use Rattle.circuit_tidy.specs.Blocks.{addition_of}
use Rattle.circuit_tidy.specs.Elimination.{noted, own_rows, with_additions}
use Rattle.circuit_tidy.proofs.BitRowLemmas.{IsNoting}
use Rattle.circuit_tidy.proofs.rows.elimination.Given as goal

abbrev pub invariant-loop-column : goal.invariant-loop-column
invariant-loop-column l =
    IsNoting l.lines l.rows.words.items (noted (with_additions own_rows (map addition_of l.block)) l.lines l.lines) l.column l.rows.notes.items
