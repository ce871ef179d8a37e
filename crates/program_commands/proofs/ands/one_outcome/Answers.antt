use Rattle.program_commands.proofs.AndsLemmas.{one_outcome}
use Rattle.program_commands.proofs.ands.one_outcome.Goals as goal

pub returns : goal.returns
returns c = one_outcome
