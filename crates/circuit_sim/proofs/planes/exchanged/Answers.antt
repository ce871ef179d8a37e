use Rattle.circuit_sim.proofs.PlaneLemmas.{chosen_first, chosen_second}
use Rattle.circuit_sim.proofs.planes.exchanged.Goals as goal

pub returns-clause-first : goal.returns-clause-first
returns-clause-first c = chosen_first c.args.mask c.args.first c.args.second

pub returns-clause-second : goal.returns-clause-second
returns-clause-second c = chosen_second c.args.mask c.args.first c.args.second
