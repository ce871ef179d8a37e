use Rattle.std.proofs.Common.{◌∙◌, ap, subst, sym}
use Rattle.std.specs.Prelude.{IfSome}
use Rattle.mct_circuit.specs.Gates.{AreGatesOn, CircuitView}
use Rattle.flip_lists.specs.Flips.{AreFlipsOn, gates_of}
use Rattle.flip_lists.proofs.GateLemmas.{flips_on_from}
use Rattle.flip_orders.specs.inside.Depths.{IsNoDeeper}
use Rattle.flip_orders.proofs.CircuitLemmas.{reordered, still_on}
use Rattle.flip_orders.proofs.best.best_order.Goals as goal
use Rattle.flip_orders.proofs.best.best_order.Goals.{After-deref, After-deref-2}

on_lines : (c : After-deref) → AreFlipsOn c.lines-lines.result c.in_ok-flips.flips.items
on_lines c =
    flips_on_from c.lines-lines.result c.in_ok-flips.flips.items c.circuit-circuit.result.now.gates (c.in_ok-flips.ensures ∙ c.gates.ensures.gates)
    (subst (λ n. AreGatesOn n c.circuit-circuit.result.now.gates) (sym c.lines-lines.ensures.lines) c.lines-lines.ensures.gates)

fine : (c : After-deref-2) → IsNoDeeper c.in_ok-flips.flips.items c.in-Some.best.items
fine c =
    subst (λ l. IsNoDeeper l c.in-Some.best.items) c.deref.ensures.value
    (subst (λ found. IfSome found (λ new. IsNoDeeper c.deref.result.now new.items)) c.in-Some.is c.in_ok-best.ensures)

pub better_order-requires : goal.better_order-requires
better_order-requires c =
    subst (AreFlipsOn c.lines-lines.result) (sym c.deref.ensures.value) (on_lines (goal.at.better_order-requires c).After-deref)

pub circuit_of-requires-clause-lines : goal.circuit_of-requires-clause-lines
circuit_of-requires-clause-lines c =
    let at = goal.at.circuit_of-requires-clause-lines c in
    subst (AreFlipsOn c.lines-lines.result) (sym c.deref-2.ensures.value)
    (still_on c.lines-lines.result c.in_ok-flips.flips.items c.in-Some.best.items (fine at.After-deref-2).order (on_lines at.After-deref))

pub returns-clause-gates : goal.returns-clause-gates
returns-clause-gates c =
    let gates = c.in_ok-flips.ensures ∙ (c.gates.ensures.gates ∙ ap (λ (v : CircuitView). v.gates) c.circuit-circuit.ensures.circuit) in
    let there = reordered c.in_ok-flips.flips.items c.in-Some.best.items c.args.narrow.gates gates
    (fine (goal.at.returns-clause-gates c).After-deref-2) in
    let made = ap (λ (v : CircuitView). v.gates) (c.new.ensures ∙ c.in_ok-circuit.ensures.circuit) ∙ ap gates_of c.deref-2.ensures.value in
    rw made there
