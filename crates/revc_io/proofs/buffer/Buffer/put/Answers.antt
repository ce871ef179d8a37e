use Rattle.revc_io.proofs.PassingLemmas.{front_of_more, gathers_fault, halfway, passed_on}
use Rattle.revc_io.proofs.buffer.Buffer.put.Goals as goal

pub returns-in_err-hand_on-clause-bytes : goal.returns-in_err-hand_on-clause-bytes
returns-in_err-hand_on-clause-bytes g c =
    gathers_fault c.args.self.now c.args.piece.now _ _ c.from_residual.ensures.1
    (front_of_more c.args.self.now _ _ c.gather-2.ensures c.split_at.ensures.by_index.0 c.in_err-hand_on.ensures.bytes) c.hand_on.ensures.empty

pub returns-clause-bytes : goal.returns-clause-bytes
returns-clause-bytes g c =
    passed_on c.args.self.now c.args.piece.now _ _ c.hand_on.ensures.empty
    (halfway c.args.self.now _ c.gather-2.ensures c.split_at.ensures.by_index.0 c.in_ok-hand_on.ensures.bytes) c.put_all.ensures.bytes
