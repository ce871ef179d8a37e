use Rattle.program_commands.proofs.PlacedLemmas.{one_outcome}
use Rattle.program_commands.proofs.placed.one_outcome.Goals as goal

pub returns : goal.returns
returns c = one_outcome
