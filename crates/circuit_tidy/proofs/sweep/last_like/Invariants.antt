use Rattle.std.proofs.Common.{◌≡◌, ◌≤◌, drop, length, true}
use Rattle.std.specs.List.{AllByRecursion}
use Rattle.flip_lists.specs.Flips.{are_free}
use Rattle.circuit_tidy.proofs.sweep.last_like.Given as goal

abbrev pub invariant-search : goal.invariant-search
invariant-search l = (l.left ≤ length l.flips) × AllByRecursion (λ one. are_free l.flip one ≡ true) (drop l.left l.flips)

abbrev pub decreases-search : goal.decreases-search
decreases-search l = l.left
