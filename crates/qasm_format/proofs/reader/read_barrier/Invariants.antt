use Rattle.std.proofs.Common.{length}
use Rattle.qasm_format.proofs.ArgumentLemmas.{InBarrier}
use Rattle.qasm_format.proofs.reader.read_barrier.Given as goal

abbrev pub invariant-arguments : goal.invariant-arguments
invariant-arguments l = InBarrier l.fn.tokens l.tokens l.declared.registers

abbrev pub decreases-arguments : goal.decreases-arguments
decreases-arguments l = length l.tokens.bytes
