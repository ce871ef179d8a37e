use Rattle.std.proofs.Common.{◌∙◌, ◌≤◌, ap, length, subst, sym}
use Rattle.mct_circuit.specs.Gates.{AreGatesOn, CircuitView}
use Rattle.flip_lists.specs.Flips.{AreFlipsOn, gates_of}
use Rattle.flip_lists.proofs.GateLemmas.{flips_on_from}
use Rattle.circuit_tidy.specs.Tidied.{IsTidied}
use Rattle.circuit_tidy.proofs.TidyLemmas.{few_done, tidied_from}
use Rattle.circuit_tidy.proofs.tidying.tidy.Goals as goal

pub tidied-requires : goal.tidied-requires
tidied-requires c =
    flips_on_from c.lines-lines.result c.in_ok-flips.flips.items c.circuit-circuit.result.now.gates (c.in_ok-flips.ensures ∙ c.gates.ensures.gates)
    (subst (λ n. AreGatesOn n c.circuit-circuit.result.now.gates) (sym c.lines-lines.ensures.lines) c.lines-lines.ensures.gates)

pub circuit_of-requires-clause-lines : goal.circuit_of-requires-clause-lines
circuit_of-requires-clause-lines c =
    subst (AreFlipsOn c.lines-lines.result) (sym c.deref.ensures.value) c.in_ok-flips-2.ensures.follows.on

pub circuit_of-requires-clause-room : goal.circuit_of-requires-clause-room
circuit_of-requires-clause-room c =
    subst (λ l. length l ≤ c.len-limit.result) (sym c.deref.ensures.value)
    (few_done c.lines-lines.result c.len-limit.result c.circuit-circuit.result.now.gates c.in_ok-flips.flips.items c.in_ok-flips-2.flips.items
    (c.in_ok-flips.ensures ∙ c.gates.ensures.gates) c.len-limit.ensures.len c.in_ok-flips-2.ensures)

pub returns-clause-tidied : goal.returns-clause-tidied
returns-clause-tidied c =
    let seen = c.circuit-circuit.ensures.circuit in
    let made = c.in_ok-circuit.ensures.circuit in
    subst (λ v. IsTidied c.args.narrow.now.lines c.args.narrow.now.gates v.gates) (sym c.new.ensures)
    (subst (λ n. IsTidied n c.args.narrow.now.gates c.in_ok-circuit.circuit.gates) (c.lines-lines.ensures.lines ∙ ap (λ (v : CircuitView). v.lines) seen)
    (tidied_from c.lines-lines.result c.args.narrow.now.gates c.in_ok-flips.flips.items c.in_ok-flips-2.flips.items c.in_ok-circuit.circuit.gates
    (c.in_ok-flips.ensures ∙ (c.gates.ensures.gates ∙ ap (λ (v : CircuitView). v.gates) seen)) c.in_ok-flips-2.ensures
    (ap (λ (v : CircuitView). v.gates) made ∙ ap gates_of c.deref.ensures.value)))
