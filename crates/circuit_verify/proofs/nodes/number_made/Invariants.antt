use Rattle.std.proofs.Common.{map, take}
use Rattle.claim_check.specs.Settled.{settled_value}
use Rattle.circuit_verify.specs.Comparisons.{input_bits}
use Rattle.circuit_verify.specs.Compared.{comparison}
use Rattle.circuit_verify.specs.inside.Numbers.{AreNumbersOf}
use Rattle.circuit_verify.proofs.nodes.number_made.Given as goal

abbrev pub invariant-loop-sig : goal.invariant-loop-sig
invariant-loop-sig l =
    AreNumbersOf (comparison l.compared) l.diagram.nodes l.outputs.items
    (λ bits. map (settled_value l.graph (input_bits (comparison l.compared) bits)) (take l.sig-index l.graph.outputs))
