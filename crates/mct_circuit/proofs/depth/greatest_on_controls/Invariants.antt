use Rattle.std.proofs.Common.{◌≡◌, max, drop, map}
use Rattle.mct_circuit.specs.declared.gate.Control.{Control}
use Rattle.mct_circuit.specs.Sizes.{greatest_at}
use Rattle.mct_circuit.proofs.depth.greatest_on_controls.Given as goal

abbrev pub invariant-loop-control : goal.invariant-loop-control
invariant-loop-control l = max l.greatest (greatest_at l.depths (map (λ (control : Control). control.line) (drop l.control-index l.controls)))
    ≡ greatest_at l.depths (map (λ (control : Control). control.line) l.controls)
