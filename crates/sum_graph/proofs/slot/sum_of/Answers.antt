use Rattle.std.proofs.lemmas.Result.{IfOk-weaker}
use Rattle.sum_graph.proofs.TakeLemmas.{multiplied, still_standing, summed}
use Rattle.sum_graph.proofs.slot.sum_of.Goals as goal

pub take-requires-in-Xor-2 : goal.take-requires-in-Xor-2
take-requires-in-Xor-2 c =
    let can = rw c.in-Xor.is at c.requires in
    still_standing c.in-Xor.a c.in-Xor.b c.args.slots.now.items c.take-in-Xor.new.slots.items _ can.2 can.1 c.in_ok-left-in-Xor.ensures

pub returns-in_ok-sum-in-Not : goal.returns-in_ok-sum-in-Not
returns-in_ok-sum-in-Not c = rw c.in-Not.is (record { operand = c.in_ok-sum-in-Not.sum; taken = c.in_ok-sum-in-Not.ensures; is = c.negate.ensures })

pub returns-in_ok-right-in-Xor : goal.returns-in_ok-right-in-Xor
returns-in_ok-right-in-Xor c =
    rw c.in-Xor.is
    (IfOk-weaker c.add.result _ _ (summed _ _ _ _ _ _ _ c.in_ok-left-in-Xor.ensures c.in_ok-right-in-Xor.ensures) c.add.ensures)

pub returns-in_ok-right-in-And : goal.returns-in_ok-right-in-And
returns-in_ok-right-in-And c =
    let left = rw c.deref.ensures.value at c.in_ok-left-in-And.ensures in
    let right = rw c.deref-in-And.ensures.value at c.in_ok-right-in-And.ensures in
    rw c.in-And.is (IfOk-weaker c.times.result _ _ (multiplied _ _ _ _ _ left right) c.times.ensures)
