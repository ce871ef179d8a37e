use Rattle.std.proofs.Common.{◌≡◌, length}
use Rattle.real_format.specs.Real.{in_gates}
use Rattle.real_format.specs.inside.Says.{verdict_on}
use Rattle.real_format.specs.inside.Stamps.{FitsNames}
use Rattle.real_format.proofs.reader.read_gates.Given as goal

abbrev pub invariant-loop-words : goal.invariant-loop-words
invariant-loop-words l = record {
  left : verdict_on (in_gates (record l.begun { gates = l.initial.circuit.gates })) l.initial.lines
      ≡ verdict_on (in_gates (record l.begun { gates = l.circuit.gates })) l.lines;
  fits : FitsNames l.begun.names l.circuit l.stamps.items;
}

abbrev pub decreases-loop-words : goal.decreases-loop-words
decreases-loop-words l = length l.lines.left
