use Rattle.revc_io.proofs.PassingLemmas.{flush_call, writes_fault}
use Rattle.revc_io.proofs.buffer.Buffer.finish.Goals as goal

pub returns-in_err-hand_on-clause-bytes : goal.returns-in_err-hand_on-clause-bytes
returns-in_err-hand_on-clause-bytes g c = writes_fault _ _ c.from_residual.ensures.1 c.in_err-hand_on.ensures.bytes

pub returns-clause-bytes : goal.returns-clause-bytes
returns-clause-bytes g c = flush_call _ _ c.flush.ensures.bytes c.in_ok-hand_on.ensures.bytes
