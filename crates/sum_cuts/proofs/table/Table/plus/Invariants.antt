use Rattle.std.proofs.Common.{◌≡◌, ℕ, ◌<◌, bit_xor, get_or, length}
use Rattle.sum_cuts.proofs.table.Table.plus.Given as goal

abbrev pub invariant-loop-i : goal.invariant-loop-i
invariant-loop-i l =
    (length l.words ≡ 64) × ((k : ℕ) → k < l.i → get_or l.words k 0 ≡ bit_xor (get_or l.self.words k 0) (get_or l.other.words k 0))
