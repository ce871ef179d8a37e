use Rattle.std.proofs.Common.{take}
use Rattle.mct_circuit.specs.Gates.{line_map}
use Rattle.circuit_verify.specs.Comparisons.{start_on}
use Rattle.circuit_verify.specs.Compared.{comparison}
use Rattle.circuit_verify.specs.inside.Numbers.{AreNumbersOf, GrowsBy}
use Rattle.circuit_verify.proofs.walking.walk.Given as goal

abbrev pub invariant-loop-gate : goal.invariant-loop-gate
invariant-loop-gate l =
    GrowsBy (comparison l.compared) l.initial.diagram l.diagram
    × AreNumbersOf (comparison l.compared) l.diagram.nodes l.lines
    (λ bits. line_map (take l.gate-index l.compared.circuit.gates) (start_on (comparison l.compared) bits))
