use Rattle.std.proofs.Common.{ap, subst, sym, arith}
use Rattle.mct_circuit.specs.Gates.{CircuitView}
use Rattle.flip_orders.specs.Orders.{AreReordered}
use Rattle.flip_orders.proofs.ReorderingLemmas.{length-reordered}
use Rattle.circuit_commands.specs.Circuits.{marked}
use Rattle.circuit_commands.specs.Outcomes.{ConvertedView}
use Rattle.circuit_commands.specs.inside.Splitting.{IsRemade}
use Rattle.circuit_commands.proofs.TidyLemmas.{remade_in_order}
use Rattle.circuit_commands.proofs.convert.Converted.in_best_order.Goals as goal

pub invariant_of-result : goal.invariant_of-result
invariant_of-result c =
    let old = c.self.invariant in
    let lines = c.in_ok-circuit.ensures.lines in
    let few = length-reordered c.self.inside.circuit.gates c.in_ok-circuit.circuit.gates c.in_ok-circuit.ensures.gates in (
      omega (arith, lines, old.0),
      omega (arith, lines, old.1),
      omega (arith, lines, old.2),
      omega (arith, lines, old.3),
      omega (arith, few, old.4),
    )

pub returns : goal.returns
returns c =
    let inside = c.self.inside in
    let old = c.self.invariant in
    let lines = c.in_ok-circuit.ensures.lines in
    let new = c.in_ok-circuit.circuit.gates in
    let seen = c.circuit.ensures.circuit in
    let gates = ap (λ (v : CircuitView). v.gates) seen in
    let wide = ap (λ (v : CircuitView). v.lines) seen in
    subst (λ (v : ConvertedView). IsRemade AreReordered v (record { circuit = marked inside.constants.items inside.garbage.items new; added = inside.added }))
    c.self.view_is
    (remade_in_order inside.constants.items inside.garbage.items inside.added inside.circuit.gates new c.circuit.result.now
    (subst (AreReordered inside.circuit.gates) (sym gates) c.in_ok-circuit.ensures.gates) gates (omega (arith, wide, lines, old.0))
    c.circuit.ensures.narrow
    c.lines.ensures.gates
    (omega (arith, old.0, old.1)) (omega (arith, old.0, old.2)) (omega (arith, old.0, old.3)) old.4)
