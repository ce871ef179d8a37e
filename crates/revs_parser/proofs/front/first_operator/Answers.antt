use Rattle.revs_parser.proofs.ReadingLemmas.{operator_clean, operator_assert, operator_rotate, rotate_halts}
use Rattle.revs_parser.proofs.front.first_operator.Goals as goal
use Rattle.revc_base.proofs.ResultLemmas.{passes_on}

pub returns-in-Some-clause-found : goal.returns-in-Some-clause-found
returns-in-Some-clause-found c = operator_clean c.in-Some.ensures.found

pub returns-in-Some-after_word-clause-found : goal.returns-in-Some-after_word-clause-found
returns-in-Some-after_word-clause-found c = operator_assert c.in-Some-after_word.ensures.found

pub returns-in_err-by-clause-halts : goal.returns-in_err-by-clause-halts
returns-in_err-by-clause-halts c = passes_on _ _ c.from_residual.ensures.1 (rotate_halts c.in-Some-after_word-2.ensures.found c.in_err-by.ensures)

pub returns-clause-found : goal.returns-clause-found
returns-clause-found c = operator_rotate c.in-Some-after_word-2.ensures.found c.in_ok-by.ensures
