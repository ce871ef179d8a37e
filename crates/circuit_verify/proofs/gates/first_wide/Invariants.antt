use Rattle.std.proofs.Common.{take}
use Rattle.std.specs.List.{AllByRecursion}
use Rattle.mct_circuit.specs.Gates.{IsNarrow}
use Rattle.circuit_verify.proofs.gates.first_wide.Given as goal

abbrev pub invariant-loop-at : goal.invariant-loop-at
invariant-loop-at l = AllByRecursion IsNarrow (take l.at l.gates)
