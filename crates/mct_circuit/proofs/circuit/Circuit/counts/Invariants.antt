use Rattle.std.proofs.Common.{◌≡◌, take}
use Rattle.mct_circuit.specs.Sizes.{counts_of}
use Rattle.mct_circuit.proofs.circuit.Circuit.counts.Given as goal

abbrev pub invariant-loop-gate : goal.invariant-loop-gate
invariant-loop-gate l = l.counts ≡ counts_of (take l.gate-index l.gate-items)
