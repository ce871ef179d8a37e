use Rattle.revs_parser.proofs.PassingLemmas.{halts_on, wants_memory}
use Rattle.revs_parser.proofs.NumberLemmas.{units_read, no_first_unit, in_units}
use Rattle.revs_parser.proofs.numbers.units.Goals as goal

pub returns-in_err-first : goal.returns-in_err-first
returns-in_err-first c = halts_on _ _ _ c.from_residual.ensures.1 (no_first_unit c.in_err-first.ensures)

pub returns-in_err-more : goal.returns-in_err-more
returns-in_err-more c = halts_on _ _ _ c.from_residual-in_err-more.ensures.1 (in_units c.in_ok-first.ensures c.in_err-more.ensures)

pub returns-in_err-number : goal.returns-in_err-number
returns-in_err-number c = halts_on _ _ _ c.from_residual-in_err-number.ensures.1 (wants_memory c.in_err-number.ensures)

pub returns : goal.returns
returns c = units_read c.in_ok-first.ensures c.in_ok-more.ensures c.in_ok-number.ensures
