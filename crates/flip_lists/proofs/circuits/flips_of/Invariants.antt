use Rattle.std.proofs.Common.{◌≡◌, take}
use Rattle.flip_lists.specs.Flips.{gates_of}
use Rattle.flip_lists.proofs.circuits.flips_of.Given as goal

abbrev pub invariant-loop-gate : goal.invariant-loop-gate
invariant-loop-gate l = gates_of l.flips.items ≡ take l.gate-index l.gates
