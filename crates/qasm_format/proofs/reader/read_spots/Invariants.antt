use Rattle.std.proofs.Common.{◌≡◌, length}
use Rattle.qasm_format.proofs.ArgumentLemmas.{InGate}
use Rattle.qasm_format.proofs.reader.read_spots.Given as goal

abbrev pub invariant-loop-k : goal.invariant-loop-k
invariant-loop-k l = record {
  gate : InGate l.fn.tokens l.tokens l.declared.registers l.controls l.spots.items;
  counted : length l.spots.items ≡ l._k;
}
