use Rattle.circuit_sim.proofs.LaneLemmas.{narrowed_by_ones, narrowed_by_zeros}
use Rattle.circuit_sim.proofs.lanes.narrow.Goals as goal
use Rattle.circuit_sim.proofs.lanes.narrow.Goals.{then-positive, else-positive}

pub returns : goal.returns
returns c =
    elim c.if-positive.branch [
      | then-positive w ↦ rw (w.if-positive.true, w.result-is) (narrowed_by_ones c.args.mask c.args.plane c.requires.0 c.requires.1)
      | else-positive w ↦ rw (w.if-positive.false, w.result-is) (narrowed_by_zeros c.args.mask c.args.plane c.requires.0 c.requires.1)
    ]
