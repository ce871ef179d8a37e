use Rattle.std.proofs.Common.{take}
use Rattle.circuit_verify.specs.Compared.{comparison}
use Rattle.circuit_verify.specs.inside.Numbers.{AreNumbersOf, GrowsBy}
use Rattle.circuit_verify.proofs.places.number_bits.Given as goal

abbrev pub invariant-loop-variable : goal.invariant-loop-variable
invariant-loop-variable l =
    GrowsBy (comparison l.compared) l.initial.diagram l.diagram
    × AreNumbersOf (comparison l.compared) l.diagram.nodes l.numbers.items (λ bits. take l.variable-index bits)
