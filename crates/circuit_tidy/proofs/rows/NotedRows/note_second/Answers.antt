use Rattle.std.proofs.Common.{◌∙◌, get_or}
use Rattle.circuit_tidy.proofs.BitRowLemmas.{second_begun, second_more, second_done}
use Rattle.circuit_tidy.proofs.rows.NotedRows.note_second.Goals as goal

pub loop-place-init : goal.loop-place-init
loop-place-init c = second_begun c.args.lines.now c.args.self.now.words.items c.args.self.now.notes.items (get_or c.args.lines.now c.args.column 0)

pub loop-place-preserved : goal.loop-place-preserved
loop-place-preserved c =
    second_more c.args.lines.now c.args.self.now.words.items c.loop-place.self.words.items c.note_other.new.self.words.items
    c.args.self.now.notes.items c.loop-place.self.notes.items c.note_other.new.self.notes.items (get_or c.args.lines.now c.args.column 0)
    c.loop-place.place c.requires.rows.rising c.loop-place-test.true c.loop-place.invariant c.in_ok-note_other.ensures

pub returns : goal.returns
returns c =
    second_done c.args.lines.now c.args.self.now.words.items c.loop-place.self.words.items c.args.self.now.notes.items c.loop-place.self.notes.items
    (get_or c.args.lines.now c.args.column 0) c.loop-place.place c.loop-place-test.false c.loop-place.invariant

pub note_other-requires-clause-rows : goal.note_other-requires-clause-rows
note_other-requires-clause-rows c = record {
  few = c.requires.rows.few;
  rising = c.requires.rows.rising;
  long = c.loop-place.invariant.long ∙ c.requires.rows.long;
}
