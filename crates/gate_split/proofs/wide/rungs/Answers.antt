use Rattle.std.proofs.Common.{arith}
use Rattle.gate_split.proofs.BuildingLemmas.{rungs_made, rungs_left}
use Rattle.gate_split.proofs.wide.rungs.Goals as goal

pub push_one_flip-requires : goal.push_one_flip-requires
push_one_flip-requires c = (rungs_left c.loop-i.top c.args.flip.controls.now c.args.idle.now c.loop-i.i c.loop-i-test.true c.loop-i.invariant.2 c.requires.long
    c.loop-i.invariant.1).0

pub loop-i-preserved : goal.loop-i-preserved
loop-i-preserved c = (
  rw c.in_ok-push_one_flip.ensures (rungs_made c.loop-i.top c.args.flip.controls.now c.args.idle.now c.loop-i.i c.loop-i.rungs.items _
      c.loop-i-test.true c.loop-i.invariant.2 c.requires.long c.loop-i.invariant.0),
  (rungs_left c.loop-i.top c.args.flip.controls.now c.args.idle.now c.loop-i.i c.loop-i-test.true c.loop-i.invariant.2 c.requires.long c.loop-i.invariant.1).1,
  omega arith,
)
