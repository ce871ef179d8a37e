use Rattle.std.proofs.Common.{◌≡◌, ℕ, get_or, cond, map, take}
use Rattle.mct_circuit.specs.declared.gate.Control.{Control}
use Rattle.mct_circuit.specs.Sizes.{has_line}
use Rattle.mct_circuit.proofs.depth.set_controls.Given as goal

abbrev pub invariant-loop-control : goal.invariant-loop-control
invariant-loop-control l = (line : ℕ) → get_or l.depths line 0 ≡ cond (has_line line
    (map (λ (control : Control). control.line) (take l.control-index l.controls))) l.depth (get_or l.fn.depths line 0)
