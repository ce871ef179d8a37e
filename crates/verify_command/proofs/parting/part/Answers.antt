use Rattle.verify_command.proofs.PartingLemmas.{next_start, parts_here, same_start}
use Rattle.verify_command.proofs.parting.part.Goals.{then-byte-eq10+else-is_mark, else-byte-eq10}
use Rattle.verify_command.proofs.parting.part.Goals as goal

pub returns-then-is_mark : goal.returns-then-is_mark
returns-then-is_mark c =
    parts_here c.args.source.now c.loop-place.place c.loop-place.start _ c.is_mark.result c.loop-place-test.true c.loop-place.invariant c.if-byte-eq10.true
    c.is_mark.ensures c.if-is_mark.true

pub loop-place-preserved : goal.loop-place-preserved
loop-place-preserved c = elim c.if-byte-eq10.branch [
  | then-byte-eq10+else-is_mark w ↦ next_start c.args.source.now c.loop-place.place c.loop-place.start c.if-byte-eq10.start _ w.is_mark.result
      c.loop-place-test.true c.loop-place.invariant w.if-byte-eq10.true w.is_mark.ensures w.if-is_mark.false w.start-is
  | else-byte-eq10 w ↦ same_start c.args.source.now c.loop-place.place c.loop-place.start c.if-byte-eq10.start _ c.loop-place-test.true
      c.loop-place.invariant w.if-byte-eq10.false w.start-is
]
