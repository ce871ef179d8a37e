use Rattle.std.proofs.Common.{length, ap, sym, ◌∙◌}
use Rattle.mct_circuit.specs.Gates.{CircuitView}
use Rattle.mct_circuit.specs.Sizes.{depth_of}
use Rattle.program_commands.proofs.bench.sizes_of.Goals as goal

pub returns-clause-ok : goal.returns-clause-ok
returns-clause-ok c = record {
  inputs = c.inputs.ensures.inputs;
  outputs = ap length c.outputs.ensures.outputs;
  writes = c.len.ensures.len;
  width = c.in_ok-width.ensures;
  lines = c.lines.ensures.lines ∙ ap (λ (circuit : CircuitView). circuit.lines) c.circuit-circuit.ensures.circuit ∙ sym c.circuit-circuit.ensures.lines;
  count = c.len-2.ensures.len ∙ ap (λ (circuit : CircuitView). length circuit.gates) c.circuit-circuit.ensures.circuit;
  depth = c.in_ok-depth.ensures ∙ ap (λ (circuit : CircuitView). depth_of circuit.gates) c.circuit-circuit.ensures.circuit;
}
