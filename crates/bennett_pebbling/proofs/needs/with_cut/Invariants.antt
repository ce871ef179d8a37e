use Rattle.std.proofs.Common.{◌≡◌, ◌+◌, ◌<◌, length, ℕ, ◌||◌}
use Rattle.std.specs.Prelude.{nat_le}
use Rattle.list_facts.specs.Bits.{bit_of}
use Rattle.sum_graph.specs.Uses.{sum_last_use}
use Rattle.bennett_pebbling.proofs.needs.with_cut.Given as goal

abbrev pub invariant-loop-k : goal.invariant-loop-k
invariant-loop-k l = record {
  count : length l.marks.items ≡ l.k;
  marked : (j : ℕ) → j < l.k → bit_of l.marks.items j ≡ (bit_of l.wanted j || nat_le l.end (sum_last_use l.graph (l.lo + j)));
}
