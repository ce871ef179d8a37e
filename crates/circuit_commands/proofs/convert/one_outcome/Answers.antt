use Rattle.circuit_commands.proofs.ConvertLemmas.{convert_outcome}
use Rattle.circuit_commands.proofs.convert.one_outcome.Goals as goal

pub returns : goal.returns
returns c = convert_outcome
