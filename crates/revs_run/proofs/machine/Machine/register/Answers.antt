use Rattle.std.proofs.Common.{◌≡◌, length, rules}
use Rattle.revs_run.proofs.ProgressLemmas.{stops}
use Rattle.revs_run.proofs.FaultLemmas.{said_first}
use Rattle.revs_run.proofs.machine.Machine.register.Goals as goal

pub returns-in_err-work : goal.returns-in_err-work
returns-in_err-work c =
    let long : c.len.result ≡ length c.args.locations.items = search rules in
    stops _ _ c.from_residual.result c.from_residual.ensures.1
    (rw (← long) (said_first c.in_err-work.field-0.0 _ _ c.in_err-work.ensures.err))

pub returns-in_err-new : goal.returns-in_err-new
returns-in_err-new c = stops _ _ c.from_residual-in_err-new.result c.from_residual-in_err-new.ensures.1 (record { stuck = tt })
