use Rattle.std.proofs.Common.{refl}
use Rattle.list_facts.proofs.AllLemmas.{AllByRecursion-at}
use Rattle.std.proofs.Common.{◌<◌, length}
use Rattle.mct_circuit.specs.declared.gate.Control.{Control}
use Rattle.circuit_sim.proofs.GateLemmas.{mask_begun, mask_more, mask_done}
use Rattle.circuit_sim.proofs.planes.mask.Goals as goal

pub loop-control-init : goal.loop-control-init
loop-control-init c = mask_begun c.args.planes.now

pub loop-control-preserved : goal.loop-control-preserved
loop-control-preserved c =
    mask_more c.args.planes.now c.args.controls.now c.loop-control.control-index _ _ c.loop-control.mask _ _ c.loop-control-test.true refl
    (AllByRecursion-at (λ (control : Control). control.line < length c.args.planes.now) c.args.controls.now c.loop-control.control-index _ c.requires
    c.loop-control-test.true) refl c.loop-control.invariant c.narrow-mask.ensures

pub returns : goal.returns
returns c = mask_done c.args.planes.now c.args.controls.now c.loop-control.control-index c.loop-control.mask c.loop-control-test.false c.loop-control.invariant
