use Rattle.std.proofs.Common.{drop}
use Rattle.std.specs.List.{concat}
use Rattle.revc_io.proofs.WritingLoopLemmas.{IsWriting}
use Rattle.revc_io.proofs.piece.EachPiece.put.Given as goal

abbrev pub invariant-loop-place : goal.invariant-loop-place
invariant-loop-place g l =
    IsWriting (g.K.Sink.held l.initial.out) (g.K.Sink.held l.out) (g.K.Sink.faults l.initial.out) (g.K.Sink.faults l.out) l.initial.buffer l.buffer
    (concat (g.P.Pieces.list l.self.0)) (concat (drop l.place (g.P.Pieces.list l.self.0)))
