use Rattle.qasm_format.specs.inside.Spread.{AreAllDifferent}
use Rattle.qasm_format.proofs.spots.all_different.Given as goal

abbrev pub invariant-loop-i : goal.invariant-loop-i
invariant-loop-i l = AreAllDifferent l.spots l.i
