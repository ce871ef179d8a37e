use Rattle.std.proofs.Common.{◌≡◌, ◌+◌, drop, take, sum_by}
use Rattle.std.specs.List.{AllByRecursion}
use Rattle.sum_toggles.specs.Toggles.{toggle_weight}
use Rattle.held_nodes.specs.inside.Kept.{HasProducts}
use Rattle.held_nodes.proofs.copying.copies_fit.Given as goal

abbrev pub invariant-loop-sum : goal.invariant-loop-sum
invariant-loop-sum l =
    (l.left + sum_by toggle_weight l.outputs ≡ l.room + sum_by toggle_weight (drop l.sum-index l.outputs))
    × AllByRecursion HasProducts (take l.sum-index l.outputs)
