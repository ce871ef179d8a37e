use Rattle.std.proofs.Common.{◌∙◌, ap, arith, subst, sym}
use Rattle.std.proofs.lemmas.List.{take_all}
use Rattle.mct_circuit.specs.Gates.{AreGatesOn, AreNarrow, CircuitView}
use Rattle.flip_lists.specs.Flips.{gates_of}
use Rattle.flip_lists.proofs.GateLemmas.{flips_are_narrow, gates_are_on}
use Rattle.flip_lists.proofs.circuits.circuit_of.Goals as goal

pub from_gates-requires-clause-on : goal.from_gates-requires-clause-on
from_gates-requires-clause-on c =
    let all = take_all c.loop-flip.flip-index c.args.flips.now (omega arith) in
    subst (AreGatesOn c.args.lines) (sym (c.loop-flip.invariant ∙ ap gates_of all)) (gates_are_on c.args.lines c.args.flips.now c.requires.lines)

pub returns-clause-narrow : goal.returns-clause-narrow
returns-clause-narrow c =
    let all = take_all c.loop-flip.flip-index c.args.flips.now (omega arith) in
    subst (λ (v : CircuitView). AreNarrow v.gates) (sym c.from_gates.ensures)
    (subst AreNarrow (sym (c.loop-flip.invariant ∙ ap gates_of all)) (flips_are_narrow c.args.flips.now))
