use Rattle.std.proofs.Common.{refl}
use Rattle.revs_run.proofs.WriteLemmas.{assigned_goes}
use Rattle.revs_run.proofs.ProgressLemmas.{stops}
use Rattle.revs_run.proofs.FaultLemmas.{said_first, said_next}
use Rattle.revs_run.proofs.machine.Machine.assign.Goals as goal

pub returns-clause-run : goal.returns-clause-run
returns-clause-run c = assigned_goes c.args.self.now _ c.args.to c.args.from _ _ _ c.in_ok-made.made refl refl refl refl c.in_ok-read.ensures.ok
    c.in_ok-made.ensures.ok c.in_ok-made.ensures.known c.requires

pub returns-in_err-read-clause-run : goal.returns-in_err-read-clause-run
returns-in_err-read-clause-run c = stops _ _ c.from_residual.result c.from_residual.ensures.1
    (said_first c.in_err-read.field-0.0 _ _ c.in_err-read.ensures.err)

pub returns-in_err-made-clause-run : goal.returns-in_err-made-clause-run
returns-in_err-made-clause-run c = stops _ _ c.from_residual-in_err-made.result c.from_residual-in_err-made.ensures.1
    (said_next c.in_err-made.field-0.0 _ _ _ _ c.in_ok-read.ensures.ok (said_first c.in_err-made.field-0.0 _ _ c.in_err-made.ensures.err))
