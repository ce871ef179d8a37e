use Rattle.circuit_sim.proofs.PackingLemmas.{with_one, with_zero}
use Rattle.circuit_sim.proofs.packing.with_bit.Goals as goal

pub returns-then-bit : goal.returns-then-bit
returns-then-bit c = rw c.if-bit.true (with_one c.args.plane c.args.place c.requires)

pub returns-else-bit : goal.returns-else-bit
returns-else-bit c = rw c.if-bit.false (with_zero c.args.plane c.args.place c.requires)
