use Rattle.bennett_pebbling.proofs.LowerLemmas.{IsLowering}
use Rattle.bennett_pebbling.proofs.block.lower.Given as goal

abbrev pub invariant-loop-k : goal.invariant-loop-k
invariant-loop-k l = IsLowering l.initial.forward l.lo l.wanted l.k l.forward
