use Rattle.std.proofs.Common.{◌≡◌}
use Rattle.mct_circuit.specs.Gates.{AreNarrow}
use Rattle.in_place_circuits.proofs.circuits.narrow_of.Given as goal

abbrev pub invariant-loop-flip : goal.invariant-loop-flip
invariant-loop-flip l = (l.circuit.lines ≡ l.fn.circuit.lines) × (l.circuit.limit ≡ l.fn.circuit.limit) × AreNarrow l.circuit.gates
