use Rattle.revc_io.proofs.PassingLemmas.{sends_fault, stopped}
use Rattle.revc_io.proofs.transfer.put_all.Goals as goal

pub returns-in_err-count-clause-bytes : goal.returns-in_err-count-clause-bytes
returns-in_err-count-clause-bytes g c =
    sends_fault _ _ c.from_residual.ensures.1 (stopped _ c.loop-rest.invariant.on_the_way c.in_err-count.ensures.bytes)
