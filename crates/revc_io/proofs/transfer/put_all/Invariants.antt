use Rattle.std.proofs.Common.{◌≡◌, [], length}
use Rattle.revc_io.proofs.PassingLemmas.{Underway}
use Rattle.revc_io.proofs.transfer.put_all.Given as goal

abbrev pub invariant-loop-rest : goal.invariant-loop-rest
invariant-loop-rest g l = record {
  on_the_way : Underway (g.K.Sink.held l.fn.out) (g.K.Sink.held l.out) [] l.piece l.rest;
  calm : g.K.Sink.faults l.out ≡ g.K.Sink.faults l.fn.out;
}

abbrev pub decreases-loop-rest : goal.decreases-loop-rest
decreases-loop-rest g l = length l.rest
