use Rattle.std.proofs.Common.{◌∙◌}
use Rattle.circuit_sim.proofs.GateLemmas.{item_below}
use Rattle.circuit_sim.proofs.planes.run_planes.Goals as goal

pub run_gate-requires : goal.run_gate-requires
run_gate-requires c =
    item_below c.gates-gate-items.ensures.placed c.gates-gate-items.ensures.gates c.loop-gate-test.true c.gate-item.is (c.loop-gate.auto.planes ∙ c.requires)
