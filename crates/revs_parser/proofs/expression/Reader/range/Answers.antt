use Rattle.revs_parser.proofs.PassingLemmas.{halts_on, no_memory}
use Rattle.revs_parser.proofs.ItemLemmas.{range_no_name, range_no_in, range_in_low, range_no_dots, range_in_high, range_no_do, range_reads}
use Rattle.revs_parser.proofs.expression.Reader.range.Goals as goal

pub returns-in_err-name : goal.returns-in_err-name
returns-in_err-name c = halts_on _ _ _ c.from_residual.ensures.1 (range_no_name c.args.self.profile c.in_err-name.ensures.halts)

pub returns-in_err-rest : goal.returns-in_err-rest
returns-in_err-rest c = halts_on _ _ _ c.from_residual-in_err-rest.ensures.1 (range_no_in c.in_ok-name.ensures.ok c.in_err-rest.ensures.halts)

pub returns-in_err-first : goal.returns-in_err-first
returns-in_err-first c =
    halts_on _ _ _ c.from_residual-in_err-first.ensures.1 (range_in_low c.in_ok-name.ensures.ok c.in_ok-rest.ensures.ok c.in_err-first.ensures)

pub returns-in_err-first-2 : goal.returns-in_err-first-2
returns-in_err-first-2 c =
    halts_on _ _ _ c.from_residual-in_err-first-2.ensures.1
    (range_no_dots c.in_ok-name.ensures.ok c.in_ok-rest.ensures.ok c.in_ok-first.ensures (rw c.in_err-first-2.ensures at c.expect.ensures.halts))

pub returns-in_err-first-3 : goal.returns-in_err-first-3
returns-in_err-first-3 c =
    halts_on _ _ _ c.from_residual-in_err-first-3.ensures.1
    (range_in_high c.in_ok-name.ensures.ok c.in_ok-rest.ensures.ok c.in_ok-first.ensures (rw c.in_ok-first-2.ensures.1 at c.expect.ensures.ok)
    (rw c.in_err-first-3.ensures at c.num-2.ensures))

pub returns-in_err-ends : goal.returns-in_err-ends
returns-in_err-ends c =
    halts_on _ _ _ c.from_residual-in_err-ends.ensures.1
    (range_no_do c.in_ok-name.ensures.ok c.in_ok-rest.ensures.ok c.in_ok-first.ensures (rw c.in_ok-first-2.ensures.1 at c.expect.ensures.ok)
    (rw c.in_ok-first-3.ensures.1 at c.num-2.ensures) (rw c.in_err-ends.ensures at c.expect_word-2.ensures.halts))

pub returns-in_err-ends-2 : goal.returns-in_err-ends-2
returns-in_err-ends-2 c = halts_on _ _ _ c.from_residual-in_err-ends-2.ensures.1 no_memory

pub returns : goal.returns
returns c =
    rw (c.in_ok-ends-2.ensures.ok, c.in_ok-ends.ensures.0, c.in_ok-first-3.ensures.0, c.in_ok-first-2.ensures.0)
    (range_reads c.in_ok-name.ensures.ok c.in_ok-rest.ensures.ok c.in_ok-first.ensures (rw c.in_ok-first-2.ensures.1 at c.expect.ensures.ok)
    (rw c.in_ok-first-3.ensures.1 at c.num-2.ensures) (rw c.in_ok-ends.ensures.1 at c.expect_word-2.ensures.ok))
