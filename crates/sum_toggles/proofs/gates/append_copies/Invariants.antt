use Rattle.std.proofs.Common.{◌≡◌, ◌++◌, drop}
use Rattle.sum_toggles.proofs.gates.append_copies.Given as goal

abbrev pub invariant-loop-gate : goal.invariant-loop-gate
invariant-loop-gate l = l.gates.items ++ drop l.gate-index l.more ≡ l.initial.gates.items ++ l.more
