use Rattle.revc_io.proofs.PassingLemmas.{begun, step, failed_call, last_call}
use Rattle.revc_io.proofs.piece.Tuple2Piece.put.Goals as goal

pub returns-in_err-put-clause-bytes : goal.returns-in_err-put-clause-bytes
returns-in_err-put-clause-bytes g c =
    failed_call c.args.buffer.now _ (g.A.Piece.bytes c.args.self.0) (g.B.Piece.bytes c.args.self.1) _ _ c.from_residual.ensures.1
    c.in_err-put.ensures.bytes (begun _ _ _)

pub returns-clause-bytes : goal.returns-clause-bytes
returns-clause-bytes g c =
    last_call c.args.buffer.now _ _ _ _ c.put-2.ensures.bytes
    (step (g.A.Piece.bytes c.args.self.0) (g.B.Piece.bytes c.args.self.1) c.in_ok-put.ensures.bytes (begun _ _ _))
