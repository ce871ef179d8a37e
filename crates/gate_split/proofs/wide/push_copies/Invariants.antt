use Rattle.std.proofs.Common.{◌≡◌, ◌++◌, take}
use Rattle.gate_split.proofs.wide.push_copies.Given as goal

abbrev pub invariant-loop-gate : goal.invariant-loop-gate
invariant-loop-gate l = l.gates.items ≡ l.fn.gates.items ++ take l.gate-index l.copied
