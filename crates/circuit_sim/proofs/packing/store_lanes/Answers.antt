use Rattle.std.proofs.Common.{arith, ap, length, ◌≡◌, ◌-◌, ◌*◌, ◌∙◌, ℕ, subst, sym}
use Rattle.std.proofs.lemmas.Simd.{length-chunk}
use Rattle.circuit_sim.specs.Rows.{AreRows}
use Rattle.circuit_sim.proofs.LaneLemmas.{stored_lane_more, stored_fits}
use Rattle.circuit_sim.proofs.packing.store_lanes.Goals as goal

pub loop-number-preserved : goal.loop-number-preserved
loop-number-preserved c =
    let long : length c.store.new.rows ≡ c.min-end.result - 64 * c.loop-number.number =
    c.store.auto.rows ∙ length-chunk (64 * c.loop-number.number) _ c.loop-number.rows (omega (arith, c.min-end.ensures, c.div_ceil-number-end.ensures)) in
    record {
      rows = stored_lane_more c.loop-number.number c.loop-number.rows c.store.new.rows c.take_lane.new.planes c.args.vectors.now _
          (ap (λ (n : ℕ). n - 64 * c.loop-number.number) c.min-end.ensures) (omega (arith, c.div_ceil-number-end.ensures)) long
          c.take_lane.ensures c.store.ensures.rows c.loop-number.invariant.rows;
      fit = stored_fits _ _ _ c.loop-number.rows c.store.new.rows c.loop-number.invariant.fit
          (subst (λ (n : ℕ). AreRows n c.store.new.rows) (c.take_lane.auto.planes ∙ c.loop-number.auto.planes ∙ sym c.requires.lines) c.store.ensures.fit);
    }
