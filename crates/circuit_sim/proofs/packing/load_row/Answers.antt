use Rattle.std.proofs.Common.{arith, refl}
use Rattle.circuit_sim.proofs.PackingLemmas.{row_more}
use Rattle.circuit_sim.proofs.packing.load_row.Goals as goal

pub loop-line-preserved : goal.loop-line-preserved
loop-line-preserved c =
    row_more c.loop-line.line c.args.place c.args.row.now c.args.planes.now c.loop-line.planes _ c.with_bit.result (omega arith) c.loop-line-test.true
    refl c.with_bit.ensures c.loop-line.invariant
