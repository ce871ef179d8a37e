use Rattle.std.proofs.Common.{◌<◌, ◌≤◌, ◌^◌, not, false, get_or, arith}
use mir.Val.{bool_byte}
use Rattle.mct_circuit.specs.declared.gate.Control.{Control}
use Rattle.mct_circuit.proofs.WeightLemmas.{counted, at_most_one}
use Rattle.list_facts.proofs.AllLemmas.{AllByRecursion-more}
use Rattle.mct_circuit.proofs.size.negative_controls.Goals as goal

pub loop-control-preserved : goal.loop-control-preserved
loop-control-preserved c =
    let here : Control = get_or c.args.controls.now c.loop-control.control-index (record { line = 0; positive = false }) in
    let low : here.line < 2 ^ 32 = omega arith in
    let one : bool_byte (not here.positive) ≤ 1 = at_most_one (not here.positive) in (
      rw c.from-count.ensures (counted (λ (control : Control). not control.positive) c.args.controls.now c.loop-control.control-index
          (record { line = 0; positive = false }) _ c.loop-control-test.true c.loop-control.invariant.0),
      AllByRecursion-more (λ (control : Control). control.line < 2 ^ 32) c.args.controls.now c.loop-control.control-index
          (record { line = 0; positive = false }) c.loop-control-test.true low c.loop-control.invariant.1,
      omega (arith, c.from-count.ensures),
    )
