use Rattle.std.proofs.Common.{arith}
use Rattle.circuit_tidy.proofs.BitRowLemmas.{found_other, read_bit}
use Rattle.circuit_tidy.proofs.rows.NotedRows.note_other.Goals as goal

pub returns : goal.returns
returns c =
    let words = c.args.self.now.words.items in
    let has = read_bit words c.args.place c.args.column _ _ c.if-not-has_bit.ensures (omega (arith, c.requires.rows.long, c.requires.place)) c.index.ensures in
    found_other c.args.lines.now words c.note.new.self.words.items c.args.self.now.notes.items c.note.new.self.notes.items c.args.column c.args.place
    c.note.result c.requires.rows.rising c.requires.column c.requires.place c.if-place-column.false has c.note.ensures.words c.note.ensures.notes
