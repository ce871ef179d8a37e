use Rattle.std.proofs.Common.{◌∙◌}
use Rattle.circuit_sim.proofs.GateLemmas.{item_below}
use Rattle.circuit_sim.proofs.lanes.run_pair.Goals as goal

pub run_gate-requires-clause-lines : goal.run_gate-requires-clause-lines
run_gate-requires-clause-lines c =
    item_below c.gates-gate-items.ensures.placed c.gates-gate-items.ensures.gates c.loop-gate-test.true c.gate-item.is
    (c.loop-gate.auto.first ∙ c.requires.lines.0)

pub run_gate-requires-in-loop-gate-clause-lines : goal.run_gate-requires-in-loop-gate-clause-lines
run_gate-requires-in-loop-gate-clause-lines c =
    item_below c.gates-gate-items.ensures.placed c.gates-gate-items.ensures.gates c.loop-gate-test.true c.gate-item.is
    (c.loop-gate.auto.second ∙ c.requires.lines.1)
