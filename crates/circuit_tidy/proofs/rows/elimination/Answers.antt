use Rattle.std.proofs.Common.{◌≡◌, ◌∙◌, ◌++◌, ap, arith, drop, length, map, take}
use Rattle.std.proofs.Math.Seq.{take-append_seam}
use Rattle.circuit_tidy.specs.Blocks.{addition_of}
use Rattle.circuit_tidy.specs.Elimination.{noted, own_rows, with_additions}
use Rattle.circuit_tidy.proofs.BitRowLemmas.{noting_begun, noting_more, noting_reversed}
use Rattle.circuit_tidy.proofs.rows.elimination.Goals as goal

pub loop-column-init : goal.loop-column-init
loop-column-init c =
    let words = c.in_ok-words.words in
    let now = c.add_block.new.words in
    let size : words.len ≡ length now = omega (arith, words.ok.0, ap length c.deref_mut.ensures.value, c.add_block.auto.words) in
    let whole : take words.len (now ++ drop (length now) words.items) ≡ now =
    ap (λ n. take n (now ++ drop (length now) words.items)) size ∙ take-append_seam now (drop (length now) words.items) in
    rw (whole, c.new-notes.ensures.items) (noting_begun c.args.lines.now words.items now (map addition_of c.args.block.now) c.requires.rising
    c.in_ok-words.ensures (rw c.deref_mut.ensures.value at c.add_block.ensures))

pub loop-column-preserved : goal.loop-column-preserved
loop-column-preserved c =
    noting_more c.args.lines.now c.loop-column.rows.words.items c.note_first.new.self.words.items c.note_second.new.self.words.items
    (noted (with_additions own_rows (map addition_of c.args.block.now)) c.args.lines.now c.args.lines.now) c.loop-column.column
    c.loop-column.rows.notes.items c.note_first.new.self.notes.items c.note_second.new.self.notes.items c.loop-column-test.true c.loop-column.invariant
    c.in_ok-note_first.ensures c.in_ok-note_second.ensures

pub returns : goal.returns
returns c =
    c.reverse.ensures.items
    ∙ noting_reversed c.args.lines.now c.loop-column.rows.words.items (noted (with_additions own_rows
    (map addition_of c.args.block.now)) c.args.lines.now c.args.lines.now)
    c.loop-column.column c.loop-column.rows.notes.items c.loop-column-test.false c.loop-column.invariant

pub note_first-requires-clause-rows : goal.note_first-requires-clause-rows
note_first-requires-clause-rows c = record { few = c.requires.few; rising = c.requires.rising; long = c.loop-column.invariant.hold.long }

pub note_second-requires-clause-rows : goal.note_second-requires-clause-rows
note_second-requires-clause-rows c = record {
  few = c.requires.few;
  rising = c.requires.rising;
  long = c.in_ok-note_first.ensures.long ∙ c.loop-column.invariant.hold.long;
}
