use Rattle.std.proofs.Common.{◌≡◌, ◌≤◌, map}
use Rattle.list_facts.specs.Bits.{bit_of}
use Rattle.list_facts.specs.Lists.{below}
use Rattle.claim_check.specs.Kept.{rank}
use Rattle.claim_check.proofs.keeping.ranks.Given as goal

abbrev pub invariant-loop-mark : goal.invariant-loop-mark
invariant-loop-mark l =
    (l.table.items ≡ map (rank (bit_of l.marks)) (below l.mark-index))
    × (l.count ≡ rank (bit_of l.marks) l.mark-index) × (l.count ≤ l.mark-index)
