use Rattle.std.proofs.Common.{sym, subst, ◌∙◌, arith}
use Rattle.mct_circuit.specs.Gates.{CircuitView, AreGatesOn}
use Rattle.real_format.proofs.MeaningLemmas.{converted_has_meaning}
use Rattle.real_format.proofs.writer.write_lines.Goals as goal

pub returns-clause-meaning : goal.returns-clause-meaning
returns-clause-meaning g c =
    let circuit = c.args.circuit.now in
    let placed : AreGatesOn circuit.lines circuit.gates = subst (λ (v : CircuitView). AreGatesOn v.lines v.gates)
    c.circuit-circuit.ensures.circuit c.lines.ensures.gates in
    converted_has_meaning c.args.constants.now c.args.garbage.now circuit.gates (c.requires.garbage ∙ sym c.requires.constants) (record {
      some = omega arith;
      few = omega arith;
      few_gates = c.requires.few_gates;
      placed = subst (λ n. AreGatesOn n circuit.gates) (sym c.requires.constants) placed;
      narrow = c.circuit-circuit.ensures.narrow;
    })
