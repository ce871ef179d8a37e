use Rattle.flip_lists.proofs.GateLemmas.{flip_is}
use Rattle.flip_lists.proofs.circuits.flip_of.Goals as goal

pub returns-in-Flip : goal.returns-in-Flip
returns-in-Flip c =
    flip_is c.args.gate.now c.controls_of-controls.result c.in-Flip.target c.controls.result.now c.requires c.controls_of-controls.ensures
    c.controls.ensures.controls c.in-Flip.ensures.op
