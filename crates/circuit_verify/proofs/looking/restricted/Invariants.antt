use Rattle.std.proofs.Common.{take}
use Rattle.circuit_verify.specs.Compared.{comparison}
use Rattle.circuit_verify.specs.inside.Numbers.{AreRestricted, GrowsBy}
use Rattle.circuit_verify.proofs.looking.restricted.Given as goal

abbrev pub invariant-loop-number : goal.invariant-loop-number
invariant-loop-number l =
    GrowsBy (comparison l.compared) l.initial.diagram l.diagram
    × AreRestricted (comparison l.compared) l.initial.diagram.nodes l.diagram.nodes (take l.number-index l.numbers) l.restricted.items
