use Rattle.std.proofs.Common.{arith, ◌∙◌}
use Rattle.std.proofs.lemmas.List.{get_or_default}
use Rattle.circuit_sim.proofs.LaneLemmas.{taken_more, vector_at}
use Rattle.circuit_sim.proofs.packing.take_lane.Goals as goal

pub loop-line-preserved : goal.loop-line-preserved
loop-line-preserved c =
    taken_more c.args.vectors.now c.args.number c.loop-line.line c.loop-line.planes _ (omega arith) c.loop-line-test.true
    (c.index.ensures ∙ get_or_default _ c.args.number _ 0 (rw (vector_at c.args.vectors.now c.loop-line.line c.requires.vectors c.loop-line-test.true)
    c.requires.number)) c.loop-line.invariant
