use Rattle.std.proofs.Common.{ap}
use Rattle.std.specs.List.{concat}
use Rattle.list_facts.proofs.CutLemmas.{drop_got}
use Rattle.revc_io.proofs.WritingLoopLemmas.{writing_more, writing_failed}
use Rattle.revc_io.proofs.piece.EachPiece.put.Goals as goal

pub returns-in_err-put-clause-bytes : goal.returns-in_err-put-clause-bytes
returns-in_err-put-clause-bytes g c =
    let left = drop_got (g.P.Pieces.list c.args.self.0) c.loop-place.place _ c.at.ensures.bytes in
    writing_failed _ _ _ _ _ _ _ (ap concat left) c.from_residual.ensures.1 c.in_err-put.ensures.bytes c.loop-place.invariant

pub loop-place-preserved : goal.loop-place-preserved
loop-place-preserved g c =
    let left = drop_got (g.P.Pieces.list c.args.self.0) c.loop-place.place _ c.at.ensures.bytes in
    writing_more _ _ _ (ap concat left) c.in_ok-put.ensures.bytes c.in_ok-put.ensures.cause.stays c.loop-place.invariant
