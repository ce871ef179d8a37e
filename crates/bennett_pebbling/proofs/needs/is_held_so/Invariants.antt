use Rattle.std.proofs.Common.{◌≡◌, ◌+◌, ◌<◌, ℕ, false}
use Rattle.list_facts.specs.Bits.{bit_of}
use Rattle.held_nodes.specs.Held.{is_held}
use Rattle.bennett_pebbling.specs.inside.Marks.{differ}
use Rattle.bennett_pebbling.proofs.needs.is_held_so.Given as goal

abbrev pub invariant-loop-k : goal.invariant-loop-k
invariant-loop-k l = record {
  same : (j : ℕ) → j < l.k → differ (is_held l.forward.lines (l.lo + j)) (bit_of l.wanted j) ≡ false;
}
