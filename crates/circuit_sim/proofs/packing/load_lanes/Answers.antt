use Rattle.std.proofs.Common.{arith, ap, ◌-◌, ◌*◌, ℕ}
use Rattle.circuit_sim.proofs.LaneLemmas.{loaded_more}
use Rattle.circuit_sim.proofs.packing.load_lanes.Goals as goal

pub loop-number-preserved : goal.loop-number-preserved
loop-number-preserved c = record {
  rows = loaded_more c.loop-number.number c.args.rows.now c.load.new.planes c.loop-number.vectors c.put_lane.new.vectors _
      (ap (λ (n : ℕ). n - 64 * c.loop-number.number) c.min-end.ensures) (omega (arith, c.div_ceil-number-end.ensures)) c.load.ensures c.put_lane.ensures
      c.loop-number.invariant.rows;
  vectors = c.put_lane.ensures.vectors;
}
