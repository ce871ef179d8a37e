use Rattle.std.proofs.Common.{◌≡◌, take, true}
use Rattle.std.specs.List.{AllByRecursion}
use Rattle.flip_lists.specs.Flips.{are_free}
use Rattle.circuit_tidy.proofs.sweep.are_all_free.Given as goal

abbrev pub invariant-loop-other : goal.invariant-loop-other
invariant-loop-other l = AllByRecursion (λ one. are_free l.flip one ≡ true) (take l.other-index l.others)
