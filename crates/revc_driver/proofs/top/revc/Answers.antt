use Rattle.std.proofs.Common.{refl}
use Rattle.revc_driver.proofs.TopLemmas.{failed, succeeded}
use Rattle.revc_driver.proofs.top.revc.Goals as goal

pub returns-in-Err : goal.returns-in-Err
returns-in-Err g c = rw c.status.ensures (failed _ _ _ c.in-Err.ensures c.report.ensures)

pub returns-in-Ok : goal.returns-in-Ok
returns-in-Ok g c = succeeded _ _ c.in-Ok.ensures refl
