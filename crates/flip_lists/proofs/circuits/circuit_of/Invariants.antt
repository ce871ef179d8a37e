use Rattle.std.proofs.Common.{◌≡◌, take}
use Rattle.flip_lists.specs.Flips.{gates_of}
use Rattle.flip_lists.proofs.circuits.circuit_of.Given as goal

abbrev pub invariant-loop-flip : goal.invariant-loop-flip
invariant-loop-flip l = l.gates.items ≡ gates_of (take l.flip-index l.flips)
