use Rattle.list_facts.proofs.BitLemmas.{not-beq}
use Rattle.revs_tape.proofs.running.entry_bit.Goals as goal

pub returns-in-Xor : goal.returns-in-Xor
returns-in-Xor c = rw c.in-Xor.is (rw (← c.bit_at.ensures, ← c.bit_at-in-Xor.ensures) (not-beq c.bit_at.result c.bit_at-in-Xor.result))
