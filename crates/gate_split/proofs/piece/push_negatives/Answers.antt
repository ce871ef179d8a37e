use Rattle.gate_split.proofs.PieceLemmas.{negatives_passed, negatives_taken, negatives_done}
use Rattle.gate_split.proofs.piece.push_negatives.Goals as goal

pub loop-control-preserved-then-control : goal.loop-control-preserved-then-control
loop-control-preserved-then-control c = negatives_passed c.loop-control.gates.items _ c.args.controls.now c.loop-control.control-index _
    c.loop-control-test.true c.if-control.true c.loop-control.invariant

pub loop-control-preserved : goal.loop-control-preserved
loop-control-preserved c = negatives_taken c.loop-control.gates.items c.push_one_flip.new.gates.items _ c.args.controls.now c.loop-control.control-index _
    c.loop-control-test.true c.if-control.false c.in_ok-push_one_flip.ensures c.loop-control.invariant

pub returns : goal.returns
returns c = negatives_done c.loop-control.gates.items _ c.args.controls.now c.loop-control.control-index c.loop-control-test.false c.loop-control.invariant
