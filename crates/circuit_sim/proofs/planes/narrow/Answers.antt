use Rattle.circuit_sim.proofs.PlaneLemmas.{narrowed_by_one, narrowed_by_zero}
use Rattle.circuit_sim.proofs.planes.narrow.Goals as goal

pub returns-then-positive : goal.returns-then-positive
returns-then-positive c = rw c.if-positive.true (narrowed_by_one c.args.mask c.args.plane)

pub returns-else-positive : goal.returns-else-positive
returns-else-positive c = rw c.if-positive.false (narrowed_by_zero c.args.mask c.args.plane)
