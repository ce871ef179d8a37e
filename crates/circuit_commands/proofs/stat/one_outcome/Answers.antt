use Rattle.circuit_commands.proofs.CircuitLemmas.{stat_outcome}
use Rattle.circuit_commands.proofs.stat.one_outcome.Goals as goal

pub returns : goal.returns
returns c = stat_outcome
