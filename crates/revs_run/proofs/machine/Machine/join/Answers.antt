use Rattle.revc_base.proofs.ResultLemmas.{passes_on}
use Rattle.revs_run.proofs.FaultLemmas.{said_first, said_next}
use Rattle.revs_run.proofs.machine.Machine.join.Goals as goal

pub returns-in_err-a-clause-err : goal.returns-in_err-a-clause-err
returns-in_err-a-clause-err c = passes_on _ c.from_residual.result c.from_residual.ensures.1
    (said_first c.in_err-a.field-0.0 _ _ c.in_err-a.ensures.err)

pub returns-in_err-b-clause-err : goal.returns-in_err-b-clause-err
returns-in_err-b-clause-err c = passes_on _ c.from_residual-in_err-b.result c.from_residual-in_err-b.ensures.1
    (said_next c.in_err-b.field-0.0 _ _ _ _ c.in_ok-a.ensures.ok (said_first c.in_err-b.field-0.0 _ _ c.in_err-b.ensures.err))
