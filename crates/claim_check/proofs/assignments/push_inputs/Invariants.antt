use Rattle.std.proofs.Common.{◌≡◌, ◌+◌, ◌++◌, drop, sum}
use Rattle.revs_tape.specs.VariableOrders.{inputs_at}
use Rattle.claim_check.proofs.assignments.push_inputs.Given as goal

abbrev pub invariant-loop-width : goal.invariant-loop-width
invariant-loop-width l =
    (l.order.items ++ inputs_at l.place l.first (drop l.width-index l.params) ≡ l.initial.order.items ++ inputs_at l.place 0 l.params)
    × (l.first + sum (drop l.width-index l.params) ≡ sum l.params)
