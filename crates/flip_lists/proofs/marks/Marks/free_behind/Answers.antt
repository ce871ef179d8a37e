use Rattle.flip_lists.proofs.MarkLemmas.{all_passed, more_passed}
use Rattle.flip_lists.proofs.marks.Marks.free_behind.Goals as goal

pub loop-other-preserved : goal.loop-other-preserved
loop-other-preserved c =
    more_passed c.args.flip c.args.place c.args.walked.now c.args.self.now c.split_at.result.1.now c.loop-other.other-index c.loop-other.self
    c.pass.new.self _ c.loop-other.invariant c.loop-other-test.true c.pass.ensures

pub returns : goal.returns
returns c =
    all_passed c.args.flip c.args.place c.args.walked.now c.args.self.now c.split_at.result.1.now c.loop-other.other-index c.loop-other.self
    c.loop-other.invariant c.loop-other-test.false
