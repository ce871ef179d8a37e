use Rattle.circuit_plans.proofs.BorrowedLemmas.{clean_circuits_borrow}
use Rattle.circuit_plans.proofs.law.clean_circuits_borrow.Goals as goal

pub returns : goal.returns
returns c = clean_circuits_borrow
