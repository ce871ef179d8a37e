use Rattle.revs_run.proofs.ProgressLemmas.{stops}
use Rattle.revs_run.proofs.FaultLemmas.{said_first}
use Rattle.revs_run.proofs.machine.Machine.constant.Goals as goal

pub returns-in_err-write : goal.returns-in_err-write
returns-in_err-write c = stops _ _ c.from_residual.result c.from_residual.ensures.1
    (said_first c.in_err-write.field-0.0 _ _ c.in_err-write.ensures.err)
