use Rattle.std.proofs.Common.{◌≡◌}
use Rattle.std.specs.List.{flat_map}
use Rattle.list_facts.specs.Lists.{below}
use Rattle.revs_tape.specs.VariableOrders.{inputs_at}
use Rattle.claim_check.proofs.assignments.variable_order.Given as goal

abbrev pub invariant-loop-place : goal.invariant-loop-place
invariant-loop-place l = l.order.items ≡ flat_map (λ place. inputs_at place 0 l.params) (below l.place)
