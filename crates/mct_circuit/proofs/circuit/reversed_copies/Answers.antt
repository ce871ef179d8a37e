use Rattle.mct_circuit.proofs.ReversalLemmas.{copied_more}
use Rattle.mct_circuit.proofs.circuit.reversed_copies.Goals as goal

pub loop-gate-preserved : goal.loop-gate-preserved
loop-gate-preserved c =
    copied_more c.args.gates.now c.loop-gate.gate-index c.gate-item.result c.in_ok-copy.field-0 c.loop-gate.copies.items c.push.new.self.items
    c.loop-gate-test.true c.gate-item.is c.in_ok-copy.ensures c.in_ok-push.ensures.items c.loop-gate.invariant
