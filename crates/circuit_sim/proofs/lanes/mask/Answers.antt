use Rattle.std.proofs.Common.{◌<◌, length, refl}
use Rattle.list_facts.proofs.AllLemmas.{AllByRecursion-at}
use Rattle.mct_circuit.specs.declared.gate.Control.{Control}
use Rattle.circuit_sim.proofs.LaneLemmas.{masks_begun, masks_more, masks_done}
use Rattle.circuit_sim.proofs.lanes.mask.Goals as goal

pub loop-control-init : goal.loop-control-init
loop-control-init c = masks_begun c.args.planes.now

pub loop-control-preserved : goal.loop-control-preserved
loop-control-preserved c =
    masks_more c.args.planes.now c.args.controls.now c.loop-control.control-index _ _ c.loop-control.mask _ _ c.loop-control-test.true refl
    (AllByRecursion-at (λ (control : Control). control.line < length c.args.planes.now) c.args.controls.now c.loop-control.control-index _ c.requires.lines
    c.loop-control-test.true) refl c.loop-control.invariant c.narrow-mask.ensures

pub returns : goal.returns
returns c = masks_done c.args.planes.now c.args.controls.now c.loop-control.control-index c.loop-control.mask c.loop-control-test.false c.loop-control.invariant
