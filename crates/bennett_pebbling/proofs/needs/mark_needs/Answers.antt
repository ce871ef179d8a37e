use Rattle.std.proofs.Common.{◌≡◌, ℕ, ◌+◌, ◌-◌, ◌<◌, length, subst, arith}
use Rattle.bennett_pebbling.proofs.NeedLemmas.{IsMarking, marking_begun, marking_done, marking_more, marking_over}
use Rattle.bennett_pebbling.proofs.needs.mark_needs.Goals as goal

pub returns : goal.returns
returns c =
    let s = c.args.graph.now in
    let end : c.loop-k.k ≡ 0 = omega (arith, c.loop-k-test.false) in
    marking_done s c.args.lo c.args.marks.now c.loop-k.marks
    (subst (λ (k : ℕ). IsMarking s c.args.lo c.args.marks.now k c.loop-k.marks) end c.loop-k.invariant)

pub loop-k-init : goal.loop-k-init
loop-k-init c = marking_begun c.args.graph.now c.args.lo c.args.marks.now

pub loop-k-preserved : goal.loop-k-preserved
loop-k-preserved c =
    let next : c.loop-k.k - 1 + 1 ≡ c.loop-k.k = omega (arith, c.loop-k-test.true) in
    marking_over c.args.graph.now c.args.lo c.args.marks.now c.loop-k.marks c.loop-k.k (c.loop-k.k - 1) next c.if-marks-k.false c.loop-k.invariant

pub loop-k-preserved-then-marks-k : goal.loop-k-preserved-then-marks-k
loop-k-preserved-then-marks-k c =
    let next : c.loop-k.k - 1 + 1 ≡ c.loop-k.k = omega (arith, c.loop-k-test.true) in
    let inside : c.loop-k.k - 1 < length c.args.marks.now = omega (arith, c.loop-k-test.true, c.loop-k.auto.k) in
    marking_more c.args.graph.now c.args.lo c.args.marks.now c.loop-k.marks c.mark_operands.new.marks c.loop-k.k (c.loop-k.k - 1) c.node.result.now
    c.requires.keeps next c.node.ensures c.mark_operands.ensures c.loop-k.invariant inside c.if-marks-k.true
