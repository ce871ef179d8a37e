use Rattle.verify_command.proofs.OutcomeLemmas.{one_outcome}
use Rattle.verify_command.proofs.verify.one_outcome.Goals as goal

pub returns : goal.returns
returns c = one_outcome
