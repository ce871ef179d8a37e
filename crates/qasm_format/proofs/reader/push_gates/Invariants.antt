use Rattle.std.proofs.Common.{◌≡◌, ◌++◌, map}
use Rattle.std.specs.List.{range_with_len}
use Rattle.qasm_format.specs.Stages.{gate_at}
use Rattle.qasm_format.proofs.reader.push_gates.Given as goal

abbrev pub invariant-loop-i : goal.invariant-loop-i
invariant-loop-i l = l.gates.items ≡ l.fn.gates.items ++ map (gate_at l.controls l.target) (range_with_len 0 l.i)
