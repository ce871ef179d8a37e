use Rattle.std.proofs.Common.{ℕ, ◌<◌}
use Rattle.exclusive_sums.specs.Cubes.{distance_at}
use Rattle.exclusive_sums.proofs.merging.first_close_to.Given as goal

abbrev pub invariant-loop-second : goal.invariant-loop-second
invariant-loop-second l = (k : ℕ) → l.first < k → k < l.second → 1 < distance_at l.cubes l.first k
