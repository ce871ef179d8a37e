use Rattle.std.proofs.Common.{take}
use Rattle.circuit_verify.specs.Compared.{comparison}
use Rattle.circuit_verify.specs.inside.Numbers.{AreNumbersOf, GrowsBy}
use Rattle.circuit_verify.proofs.StepLemmas.{wanted_bits}
use Rattle.circuit_verify.proofs.outputs.number_added.Given as goal

abbrev pub invariant-loop-line : goal.invariant-loop-line
invariant-loop-line l =
    GrowsBy (comparison l.compared) l.initial.diagram l.diagram
    × AreNumbersOf (comparison l.compared) l.diagram.nodes l.wanted.items (λ bits. take l.line (wanted_bits l.compared bits))
