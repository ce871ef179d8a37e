use Rattle.std.proofs.Common.{◌≡◌, ℕ, ◌<◌, get_or, length}
use Rattle.sum_cuts.proofs.TableLemmas.{IsVariableWord}
use Rattle.sum_cuts.proofs.table.Table.variable.Given as goal

abbrev pub invariant-loop-i : goal.invariant-loop-i
invariant-loop-i l = (length l.words ≡ 64) × ((k : ℕ) → k < l.i → IsVariableWord l.place k (get_or l.words k 0))
