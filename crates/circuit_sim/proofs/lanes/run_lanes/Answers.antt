use Rattle.std.proofs.Common.{◌∙◌}
use Rattle.circuit_sim.proofs.GateLemmas.{item_below}
use Rattle.circuit_sim.proofs.lanes.run_lanes.Goals as goal

pub run_gate-requires-clause-lines : goal.run_gate-requires-clause-lines
run_gate-requires-clause-lines c =
    item_below c.gates-gate-items.ensures.placed c.gates-gate-items.ensures.gates c.loop-gate-test.true c.gate-item.is
    (c.loop-gate.auto.planes ∙ c.requires.lines)
