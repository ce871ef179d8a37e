use Rattle.real_format.proofs.MarkWordLemmas.{mark_read, no_mark, all_read}
use Rattle.real_format.proofs.header.marks_of.Goals as goal

pub returns-in_default-of-clause-err : goal.returns-in_default-of-clause-err
returns-in_default-of-clause-err g c =
    no_mark g.M.Marking.marking c.args.count c.args.words.now c.in-Some.word.now c.loop-byte.marks.items c.loop-byte.byte-index c.of.result c.in-Some.ensures
    c.if-word-count.false c.loop-byte-test.true c.of.ensures c.in_default-of.is c.loop-byte.invariant

pub loop-byte-preserved : goal.loop-byte-preserved
loop-byte-preserved g c =
    mark_read g.M.Marking.marking c.in-Some.word.now c.loop-byte.marks.items c.push.new.self.items c.loop-byte.byte-index c.in-Some-of.mark
    c.of.result c.loop-byte-test.true c.of.ensures c.in-Some-of.is c.in_ok-push.ensures.items c.loop-byte.invariant

pub returns-clause-ok : goal.returns-clause-ok
returns-clause-ok g c =
    all_read g.M.Marking.marking c.args.count c.args.words.now c.in-Some.word.now c.loop-byte.marks.items c.loop-byte.byte-index c.in-Some.ensures
    c.if-word-count.false c.loop-byte-test.false c.loop-byte.invariant
