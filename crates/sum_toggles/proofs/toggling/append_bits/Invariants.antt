use Rattle.std.proofs.Common.{◌≡◌, ◌++◌, drop}
use Rattle.sum_toggles.specs.Toggles.{base_line, bit_gates}
use Rattle.sum_toggles.proofs.toggling.append_bits.Given as goal

abbrev pub invariant-loop-base : goal.invariant-loop-base
invariant-loop-base l =
    l.gates.items ++ bit_gates (base_line l.on.first l.on.lines.now) l.target (drop l.base-index l.bits)
    ≡ l.initial.gates.items ++ bit_gates (base_line l.on.first l.on.lines.now) l.target l.bits
