use Rattle.circuit_verify.specs.Comparisons.{input_bits}
use Rattle.circuit_verify.specs.Compared.{comparison}
use Rattle.circuit_verify.specs.inside.Numbers.{AreNumbersOf, GrowsBy, first_values}
use Rattle.circuit_verify.proofs.nodes.number_nodes.Given as goal

abbrev pub invariant-loop-k : goal.invariant-loop-k
invariant-loop-k l =
    GrowsBy (comparison l.compared) l.initial.diagram l.diagram
    × AreNumbersOf (comparison l.compared) l.diagram.nodes l.nodes.items
    (λ bits. first_values l.graph l.k (input_bits (comparison l.compared) bits))
