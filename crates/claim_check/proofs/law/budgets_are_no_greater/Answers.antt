use Rattle.claim_check.proofs.BudgetLemmas.{budgets_are_no_greater}
use Rattle.claim_check.proofs.law.budgets_are_no_greater.Goals as goal

pub returns : goal.returns
returns c = budgets_are_no_greater
