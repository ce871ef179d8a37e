use Rattle.revs_parser.proofs.PassingLemmas.{halts_on}
use Rattle.revs_parser.proofs.NumberLemmas.{digits_read, no_digits}
use Rattle.revs_parser.proofs.numbers.digits.Goals as goal

pub returns-in_err-value : goal.returns-in_err-value
returns-in_err-value c = halts_on _ _ _ c.from_residual.ensures.1 (no_digits c.in_err-value.ensures.halts)

pub returns : goal.returns
returns c = digits_read c.in_ok-value.ensures.ok c.of_digits.ensures
