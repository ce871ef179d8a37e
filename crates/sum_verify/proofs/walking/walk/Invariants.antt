use Rattle.std.proofs.Common.{take}
use Rattle.mct_circuit.specs.Gates.{line_map}
use Rattle.product_sums.specs.Products.{Extends}
use Rattle.circuit_verify.specs.Compared.{comparison}
use Rattle.circuit_verify.specs.Comparisons.{start_on}
use Rattle.sum_verify.specs.inside.Forms.{AreFormsOf}
use Rattle.sum_verify.proofs.walking.walk.Given as goal

abbrev pub invariant-loop-gate : goal.invariant-loop-gate
invariant-loop-gate l =
    Extends l.initial.products l.products
    × AreFormsOf (comparison l.compared) l.products l.compared.circuit.lines l.lines
    (λ bits. line_map (take l.gate-index l.compared.circuit.gates) (start_on (comparison l.compared) bits))
