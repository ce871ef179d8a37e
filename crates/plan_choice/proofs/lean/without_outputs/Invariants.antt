use Rattle.std.proofs.Common.{◌≡◌, ◌+◌, drop, sum_by}
use Rattle.sum_toggles.specs.Toggles.{toggle_weight}
use Rattle.plan_choice.proofs.lean.without_outputs.Given as goal

abbrev pub invariant-loop-sum : goal.invariant-loop-sum
invariant-loop-sum l = l.left + sum_by toggle_weight l.outputs ≡ l.gates + sum_by toggle_weight (drop l.sum-index l.outputs)
