use Rattle.circuit_plans.proofs.BorrowedLemmas.{added_outputs_are_put}
use Rattle.circuit_plans.proofs.law.added_outputs_are_put.Goals as goal

pub returns : goal.returns
returns c = added_outputs_are_put
