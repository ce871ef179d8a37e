use Rattle.std.proofs.Common.{◌+◌, ◌∙◌, ap, arith, length, sym, drop, get_or}
use Rattle.circuit_tidy.specs.Elimination.{first_step}
use Rattle.circuit_tidy.proofs.BitRowLemmas.{found_first, found_no_first, first_has, first_with-passed, noted_nothing, read_bit}
use Rattle.circuit_tidy.proofs.rows.NotedRows.note_first.Goals as goal

pub returns-then-has_bit : goal.returns-then-has_bit
returns-then-has_bit c =
    let words = c.args.self.now.words.items in
    let has = read_bit words c.args.column c.args.column _ _ c.if-has_bit.ensures (omega (arith, c.requires.rows.long, c.requires.column)) c.index.ensures in
    noted_nothing c.args.lines.now words c.args.self.now.notes.items
    (λ rows. first_step rows (get_or c.args.lines.now c.args.column 0) (drop (c.args.column + 1) c.args.lines.now))
    (λ rows hold. first_has c.args.lines.now words c.args.column (drop (c.args.column + 1) c.args.lines.now) rows hold c.requires.column (sym has))

pub returns-then-has_bit-2 : goal.returns-then-has_bit-2
returns-then-has_bit-2 c =
    let words = c.args.self.now.words.items in
    let lacks = read_bit words c.args.column c.args.column _ _ c.if-has_bit.ensures (omega (arith, c.requires.rows.long, c.requires.column)) c.index.ensures in
    let has = read_bit c.loop-place.self.words.items c.loop-place.place c.args.column _ _ c.if-has_bit-2.ensures
    (omega (arith, c.requires.rows.long, c.loop-place-test.true, ap length c.loop-place.invariant.0)) c.index-in-loop-place.ensures in
    found_first c.args.lines.now words c.loop-place.self.words.items c.note.new.self.words.items c.args.self.now.notes.items c.loop-place.self.notes.items
    c.note.new.self.notes.items c.args.column c.loop-place.place c.note.result c.requires.column c.loop-place-test.true lacks c.loop-place.invariant.0
    c.loop-place.invariant.1 c.loop-place.invariant.2 has c.note.ensures.words c.note.ensures.notes

pub loop-place-preserved : goal.loop-place-preserved
loop-place-preserved c =
    let lacks = read_bit c.loop-place.self.words.items c.loop-place.place c.args.column _ _ c.if-has_bit-2.ensures
    (omega (arith, c.requires.rows.long, c.loop-place-test.true, ap length c.loop-place.invariant.0)) c.index-in-loop-place.ensures in (
      c.loop-place.invariant.0,
      c.loop-place.invariant.1,
      λ rows hold. c.loop-place.invariant.2 rows hold
          ∙ first_with-passed c.args.lines.now c.loop-place.self.words.items c.args.column c.loop-place.place rows hold c.requires.column c.loop-place-test.true
          (sym lacks),
    )

pub returns : goal.returns
returns c =
    let words = c.args.self.now.words.items in
    let lacks = read_bit words c.args.column c.args.column _ _ c.if-has_bit.ensures (omega (arith, c.requires.rows.long, c.requires.column)) c.index.ensures in
    found_no_first c.args.lines.now words c.loop-place.self.words.items c.args.self.now.notes.items c.loop-place.self.notes.items c.args.column
    c.loop-place.place c.requires.column c.loop-place-test.false lacks c.loop-place.invariant.0 c.loop-place.invariant.1 c.loop-place.invariant.2
