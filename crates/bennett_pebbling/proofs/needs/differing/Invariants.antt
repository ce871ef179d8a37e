use Rattle.std.proofs.Common.{◌≡◌, ◌+◌, ◌<◌, length, ℕ}
use Rattle.list_facts.specs.Bits.{bit_of}
use Rattle.held_nodes.specs.Held.{is_held}
use Rattle.bennett_pebbling.specs.inside.Marks.{differ}
use Rattle.bennett_pebbling.proofs.needs.differing.Given as goal

abbrev pub invariant-loop-k : goal.invariant-loop-k
invariant-loop-k l = record {
  count : length l.marks.items ≡ l.k;
  marked : (j : ℕ) → j < l.k → bit_of l.marks.items j ≡ differ (is_held l.forward.lines (l.lo + j)) (bit_of l.wanted j);
}
