use Rattle.std.proofs.Common.{arith, ap, ℕ, ◌==◌}
use Rattle.std.proofs.lemmas.Nat.Bits.{shr_and_one}
use Rattle.circuit_sim.proofs.PackingLemmas.{column_more}
use Rattle.circuit_sim.proofs.packing.store_row.Goals as goal

pub loop-line-preserved : goal.loop-line-preserved
loop-line-preserved c =
    column_more c.args.planes.now c.args.place c.loop-line.line c.loop-line.row _ (omega arith) c.loop-line-test.true
    (ap (λ (b : ℕ). b == 1) (shr_and_one _ c.args.place)) c.loop-line.invariant
