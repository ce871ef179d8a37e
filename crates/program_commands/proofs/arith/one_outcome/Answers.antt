use Rattle.program_commands.proofs.ArithOutcomeLemmas.{one_outcome}
use Rattle.program_commands.proofs.arith.one_outcome.Goals as goal

pub returns : goal.returns
returns c = one_outcome
