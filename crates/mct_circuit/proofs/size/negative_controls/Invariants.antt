use Rattle.std.proofs.Common.{◌≡◌, ◌<◌, ◌≤◌, ◌^◌, take, not, count_by}
use Rattle.std.specs.List.{AllByRecursion}
use Rattle.mct_circuit.specs.declared.gate.Control.{Control}
use Rattle.mct_circuit.proofs.size.negative_controls.Given as goal

abbrev pub invariant-loop-control : goal.invariant-loop-control
invariant-loop-control l = (l.count ≡ count_by (λ (control : Control). not control.positive) (take l.control-index l.controls))
    × (AllByRecursion (λ (control : Control). control.line < 2 ^ 32) (take l.control-index l.controls)) × (l.count ≤ l.control-index)
