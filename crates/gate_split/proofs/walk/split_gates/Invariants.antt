use Rattle.std.proofs.Common.{◌≡◌, Some, take}
use Rattle.gate_split.specs.Split.{split_gates}
use Rattle.gate_split.proofs.walk.split_gates.Given as goal

abbrev pub invariant-loop-gate : goal.invariant-loop-gate
invariant-loop-gate l = (split_gates l.lines (take l.gate-index l.gates) ≡ Some l.split.items) × (l.marks ≡ l.lines)
