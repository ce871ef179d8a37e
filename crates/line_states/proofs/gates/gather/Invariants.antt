use Rattle.std.proofs.Common.{◌≡◌, ◌++◌, drop}
use Rattle.line_states.specs.Gathers.{gather_gates}
use Rattle.line_states.proofs.gates.gather.Given as goal

abbrev pub invariant-loop-line : goal.invariant-loop-line
invariant-loop-line l =
    l.gates.items ++ gather_gates l.gather.on (drop l.line-index l.line-items)
    ≡ l.initial.gates.items ++ gather_gates l.gather.on l.gather.others
