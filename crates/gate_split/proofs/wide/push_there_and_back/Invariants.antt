use Rattle.std.proofs.Common.{◌≡◌, ◌++◌, ◌-◌, ◌≤◌, take, reverse, length}
use Rattle.gate_split.specs.Split.{there_and_back}
use Rattle.gate_split.proofs.wide.push_there_and_back.Given as goal

abbrev pub decreases-loop-i : goal.decreases-loop-i
decreases-loop-i l = l.i

abbrev pub invariant-loop-i : goal.invariant-loop-i
invariant-loop-i l = (l.gates.items ++ reverse (take (l.i - 1) l.rungs) ≡ l.fn.gates.items ++ there_and_back l.rungs) × (l.i ≤ length l.rungs)
