use Rattle.circuit_commands.proofs.TidyLemmas.{tidy_outcome}
use Rattle.circuit_commands.proofs.tidy.one_outcome.Goals as goal

pub returns : goal.returns
returns c = tidy_outcome
