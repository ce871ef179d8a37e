use Rattle.circuit_sim.proofs.LaneLemmas.{chosen_firsts, chosen_seconds}
use Rattle.circuit_sim.proofs.lanes.exchanged.Goals as goal

pub returns-clause-first : goal.returns-clause-first
returns-clause-first c = chosen_firsts c.args.mask c.args.first c.args.second c.requires

pub returns-clause-second : goal.returns-clause-second
returns-clause-second c = chosen_seconds c.args.mask c.args.first c.args.second c.requires
