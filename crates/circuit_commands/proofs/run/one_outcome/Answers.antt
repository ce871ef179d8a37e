use Rattle.circuit_commands.proofs.CircuitLemmas.{run_outcome}
use Rattle.circuit_commands.proofs.run.one_outcome.Goals as goal

pub returns : goal.returns
returns c = run_outcome
