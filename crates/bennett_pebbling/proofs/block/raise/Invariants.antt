use Rattle.bennett_pebbling.proofs.RaiseLemmas.{IsRaising}
use Rattle.bennett_pebbling.proofs.block.raise.Given as goal

abbrev pub invariant-loop-k : goal.invariant-loop-k
invariant-loop-k l = IsRaising l.initial.forward l.lo l.marks l.k l.forward
