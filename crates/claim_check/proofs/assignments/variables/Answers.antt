use Rattle.std.proofs.Common.{◌∙◌, ap, arith, length, Vec, ℕ, Global}
use Rattle.std.proofs.lemmas.Result.{IfOk-weaker}
use Rattle.revs_tape.proofs.VariableOrderLemmas.{is_order}
use Rattle.claim_check.proofs.OrderTableLemmas.{order_of_list, variables_are}
use Rattle.claim_check.proofs.assignments.variables.Goals as goal

pub places-requires-clause-few : goal.places-requires-clause-few
places-requires-clause-few c =
    let params = c.args.params.now in
    omega (arith, ap length c.deref.ensures.value, ap length c.in_ok-order.ensures, (is_order params).count, c.requires.inputs)

pub places-requires-clause-order : goal.places-requires-clause-order
places-requires-clause-order c =
    let params = c.args.params.now in
    order_of_list params c.deref.result.now (c.deref.ensures.value ∙ c.in_ok-order.ensures) (is_order params)

pub returns : goal.returns
returns c =
    let params = c.args.params.now in
    IfOk-weaker c.places.result _ _
    (λ (v : Vec ℕ Global) are. variables_are params c.deref.result.now v.items (c.deref.ensures.value ∙ c.in_ok-order.ensures) (is_order params) are)
    c.places.ensures
