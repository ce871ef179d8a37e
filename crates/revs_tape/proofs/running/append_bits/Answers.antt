use Rattle.revs_tape.proofs.RunLemmas.{written_next}
use Rattle.revs_tape.proofs.running.append_bits.Goals as goal

pub loop-entry-preserved : goal.loop-entry-preserved
loop-entry-preserved c =
    written_next _ _ _ _ _ _ _ _ _ c.loop-entry-test.true c.deref.ensures.value c.entry_bit-bit.ensures c.in_ok-push.ensures.items c.loop-entry.invariant
