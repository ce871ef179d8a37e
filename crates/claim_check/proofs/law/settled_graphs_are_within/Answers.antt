use Rattle.claim_check.proofs.BudgetLemmas.{own_measures_are_within, settled_graphs_are_within}
use Rattle.claim_check.proofs.law.settled_graphs_are_within.Goals as goal

pub returns-clause-of_tape : goal.returns-clause-of_tape
returns-clause-of_tape c = settled_graphs_are_within

pub returns-clause-own : goal.returns-clause-own
returns-clause-own c = own_measures_are_within
