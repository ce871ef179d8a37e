use Rattle.std.proofs.Common.{ℕ, ◌<◌, length}
use Rattle.exclusive_sums.specs.Cubes.{distance_at}
use Rattle.exclusive_sums.proofs.merging.first_close_pair.Given as goal

abbrev pub invariant-loop-first : goal.invariant-loop-first
invariant-loop-first l = (i j : ℕ) → i < l.first → i < j → j < length l.cubes → 1 < distance_at l.cubes i j
