use Rattle.std.proofs.Common.{sym, ◌∙◌}
use Rattle.revs_parser.proofs.PassingLemmas.{halts_on}
use Rattle.revs_parser.proofs.NumberLemmas.{unit_name, unit_no_name, unit_number, unit_no_number}
use Rattle.revs_parser.proofs.numbers.unit.Goals as goal

pub returns-in_err-used : goal.returns-in_err-used
returns-in_err-used c = halts_on _ _ _ c.from_residual.ensures.1 (unit_no_name (sym c.begins_name.ensures ∙ c.if-begins_name.true) c.in_err-used.ensures.halts)

pub returns-then-begins_name : goal.returns-then-begins_name
returns-then-begins_name c = unit_name (sym c.begins_name.ensures ∙ c.if-begins_name.true) c.in_ok-used.ensures.ok

pub returns-in_err-value : goal.returns-in_err-value
returns-in_err-value c =
    halts_on _ _ _ c.from_residual-in_err-value.ensures.1
    (unit_no_number (sym c.begins_name.ensures ∙ c.if-begins_name.false) c.in_err-value.ensures.halts)

pub returns : goal.returns
returns c = unit_number (sym c.begins_name.ensures ∙ c.if-begins_name.false) c.in_ok-value.ensures.ok
