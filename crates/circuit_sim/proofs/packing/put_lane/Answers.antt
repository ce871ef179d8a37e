use Rattle.std.proofs.Common.{arith}
use Rattle.circuit_sim.proofs.LaneLemmas.{lane_more, vector_at}
use Rattle.circuit_sim.proofs.packing.put_lane.Goals as goal

pub with_plane-requires : goal.with_plane-requires
with_plane-requires c = rw (vector_at c.loop-line.vectors c.loop-line.line c.loop-line.invariant.vectors (omega arith)) c.requires.number

pub loop-line-preserved : goal.loop-line-preserved
loop-line-preserved c =
    lane_more c.loop-line.line c.args.number c.args.planes.now c.args.vectors.now c.loop-line.vectors _ c.requires.number (omega arith) (omega arith)
    c.with_plane.ensures c.loop-line.invariant
