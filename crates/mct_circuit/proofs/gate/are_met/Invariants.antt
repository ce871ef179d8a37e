use Rattle.std.proofs.Common.{◌≡◌, drop}
use Rattle.std.specs.List.{list_all}
use Rattle.mct_circuit.specs.Gates.{is_met}
use Rattle.mct_circuit.proofs.gate.are_met.Given as goal

abbrev pub invariant-loop-control : goal.invariant-loop-control
invariant-loop-control l = list_all (is_met l.lines) (drop l.control-index l.controls) ≡ list_all (is_met l.lines) l.controls
