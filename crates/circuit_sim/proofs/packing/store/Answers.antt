use Rattle.std.proofs.Common.{arith, ◌<◌, ◌∙◌, length}
use Rattle.circuit_sim.proofs.PackingLemmas.{stored_more, fits_more}
use Rattle.circuit_sim.proofs.packing.store.Goals as goal

pub loop-place-preserved : goal.loop-place-preserved
loop-place-preserved c =
    let inside : c.loop-place.place < length c.loop-place.rows = omega arith in
    record {
      rows = stored_more c.args.planes.now c.loop-place.place c.loop-place.rows _ c.store_row.new.row inside
          (c.store_row.auto.row ∙ c.deref_mut.ensures.len) c.store_row.ensures c.loop-place.invariant.rows;
      fit = fits_more c.args.planes.now c.loop-place.place c.loop-place.rows _ c.store_row.new.row (c.store_row.auto.row ∙ c.deref_mut.ensures.len)
          c.store_row.ensures c.loop-place.invariant.fit;
    }
