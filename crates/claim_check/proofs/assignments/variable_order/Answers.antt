use Rattle.std.proofs.Common.{◌≡◌, ℕ, arith, ap, ◌∙◌}
use Rattle.std.specs.List.{flat_map}
use Rattle.list_facts.specs.Lists.{below}
use Rattle.revs_tape.specs.VariableOrders.{inputs_at}
use Rattle.claim_check.proofs.OrderTableLemmas.{order_is, order_more}
use Rattle.claim_check.proofs.assignments.variable_order.Goals as goal

pub returns : goal.returns
returns c =
    let params = c.args.params.now in
    let all : c.loop-place.place ≡ c.widest-place-end.result = omega (arith, c.loop-place-test.false, c.loop-place.auto.place-end) in
    c.loop-place.invariant ∙ ap (λ (n : ℕ). flat_map (λ place. inputs_at place 0 params) (below n)) all
    ∙ order_is params c.widest-place-end.result c.widest-place-end.ensures

pub loop-place-preserved : goal.loop-place-preserved
loop-place-preserved c = order_more c.args.params.now c.loop-place.order.items c.push_inputs.new.order.items c.loop-place.place
    c.in_ok-push_inputs.ensures c.loop-place.invariant
