use Rattle.revs_parser.proofs.ProgramLemmas.{no_width, some_width, width_unclosed}
use Rattle.revs_parser.proofs.program.width.Goals as goal
use Rattle.revc_base.proofs.ResultLemmas.{passes_on}
use Rattle.revs_parser.proofs.PassingLemmas.{still_exact}

pub returns-in_err-rest-clause-halts : goal.returns-in_err-rest-clause-halts
returns-in_err-rest-clause-halts c =
    passes_on _ _ c.from_residual.ensures.1 (width_unclosed c.in_default.ensures.none c.in_err-rest.ensures.halts)

pub returns-clause-ok : goal.returns-clause-ok
returns-clause-ok c = some_width c.in-Some.ensures.found c.in_ok-bits.ensures.ok c.in_ok-rest-2.ensures.ok c.in_ok-rest-3.ensures.ok

pub returns-in_default-clause-ok : goal.returns-in_default-clause-ok
returns-in_default-clause-ok c = no_width c.in_default.ensures.none c.in_ok-rest.ensures.ok

pub returns-in_err-rest-clause-exact : goal.returns-in_err-rest-clause-exact
returns-in_err-rest-clause-exact c = still_exact c.from_residual.result _ c.from_residual.ensures.1 c.in_err-rest.ensures.exact

pub returns-in_err-bits-clause-exact : goal.returns-in_err-bits-clause-exact
returns-in_err-bits-clause-exact c = still_exact c.from_residual-in_err-bits.result _ c.from_residual-in_err-bits.ensures.1 c.in_err-bits.ensures.exact

pub returns-in_err-rest-2-clause-exact : goal.returns-in_err-rest-2-clause-exact
returns-in_err-rest-2-clause-exact c = still_exact c.from_residual-in_err-rest-2.result _ c.from_residual-in_err-rest-2.ensures.1 c.in_err-rest-2.ensures.exact

pub returns-in_err-rest-3-clause-exact : goal.returns-in_err-rest-3-clause-exact
returns-in_err-rest-3-clause-exact c = still_exact c.from_residual-in_err-rest-3.result _ c.from_residual-in_err-rest-3.ensures.1 c.in_err-rest-3.ensures.exact
