use Rattle.std.proofs.Common.{subst}
use Rattle.mct_circuit.specs.Gates.{CircuitView, AreGatesOn}
use Rattle.qasm_format.proofs.MeaningLemmas.{converted_has_meaning}
use Rattle.qasm_format.proofs.writer.write_lines.Goals as goal

pub returns-clause-meaning : goal.returns-clause-meaning
returns-clause-meaning g c =
    let circuit = c.args.circuit.now in
    let placed : AreGatesOn circuit.lines circuit.gates = subst (λ (v : CircuitView). AreGatesOn v.lines v.gates)
    c.circuit-circuit.ensures.circuit c.lines-lines.ensures.gates in
    converted_has_meaning circuit.lines c.args.added circuit.gates c.requires.two (record {
      some = c.requires.some;
      few = c.requires.few;
      few_gates = c.requires.few_gates;
      placed = placed;
      narrow = c.circuit-circuit.ensures.narrow;
    })
