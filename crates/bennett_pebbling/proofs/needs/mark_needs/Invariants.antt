use Rattle.bennett_pebbling.proofs.NeedLemmas.{IsMarking}
use Rattle.bennett_pebbling.proofs.needs.mark_needs.Given as goal

abbrev pub invariant-loop-k : goal.invariant-loop-k
invariant-loop-k l = IsMarking l.graph l.lo l.initial.marks l.k l.marks
