use Rattle.revc_base.proofs.ResultLemmas.{passes_on}
use Rattle.revs_parser.proofs.ProgramLemmas.{profile_one, profile_two, no_revs, no_number, no_main}
use Rattle.revs_parser.proofs.program.profile.Goals as goal

pub returns-in-Some-clause-ok : goal.returns-in-Some-clause-ok
returns-in-Some-clause-ok c = profile_one c.in-Some.ensures.found

pub returns-in_err-rest-clause-halts : goal.returns-in_err-rest-clause-halts
returns-in_err-rest-clause-halts c = passes_on _ _ c.from_residual.ensures.1 (no_revs c.in_default.ensures.none c.in_err-rest.ensures.halts)

pub returns-in_err-rest-2-clause-halts : goal.returns-in_err-rest-2-clause-halts
returns-in_err-rest-2-clause-halts c =
    passes_on _ _ c.from_residual-in_err-rest-2.ensures.1 (no_number c.in_default.ensures.none c.in_ok-rest.ensures.ok c.in_err-rest-2.ensures.halts)

pub returns-in_err-rest-3-clause-halts : goal.returns-in_err-rest-3-clause-halts
returns-in_err-rest-3-clause-halts c =
    passes_on _ _ c.from_residual-in_err-rest-3.ensures.1
    (no_main c.in_default.ensures.none c.in_ok-rest.ensures.ok c.in_ok-rest-2.ensures.ok c.in_err-rest-3.ensures.halts)

pub returns-clause-ok : goal.returns-clause-ok
returns-clause-ok c = profile_two c.in_default.ensures.none c.in_ok-rest.ensures.ok c.in_ok-rest-2.ensures.ok c.in_ok-rest-3.ensures.ok
