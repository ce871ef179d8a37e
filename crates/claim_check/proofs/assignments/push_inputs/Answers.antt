use Rattle.std.proofs.Common.{rules, ◌≡◌, ◌+◌, Bool, cond, [], ◌∷◌, ◌++◌, append-nil, get_or, drop, sym, ap, ◌∙◌, arith}
use Rattle.std.proofs.lemmas.Bool.{lt-ltb, le-ltb}
use Rattle.revs_tape.specs.VariableOrders.{inputs_at}
use Rattle.claim_check.proofs.OrderTableLemmas.{sum_next, inputs_more}
use Rattle.claim_check.proofs.assignments.push_inputs.Goals as goal
use Rattle.claim_check.proofs.assignments.push_inputs.Goals.{then-place-width+in_ok-push, else-place-width}

pub overflow_add-first : goal.overflow_add-first
overflow_add-first c = let next = sum_next c.args.params.now c.loop-width.width-index c.loop-width-test.true in omega (arith, next)

pub overflow_add-first-in-loop-width : goal.overflow_add-first-in-loop-width
overflow_add-first-in-loop-width c = let next = sum_next c.args.params.now c.loop-width.width-index c.loop-width-test.true in omega (arith, next)

pub loop-width-preserved : goal.loop-width-preserved
loop-width-preserved c =
    let next = sum_next c.args.params.now c.loop-width.width-index c.loop-width-test.true in
    let later = inputs_at c.args.place (c.loop-width.first + get_or c.args.params.now c.loop-width.width-index 0)
    (drop (c.loop-width.width-index + 1) c.args.params.now) in
    let more : c.if-place-width.order.items ++ later ≡ c.args.order.now.items ++ inputs_at c.args.place 0 c.args.params.now =
    elim c.if-place-width.branch [
      | then-place-width+in_ok-push w ↦
          let pushed : c.if-place-width.order.items ≡ c.loop-width.order.items ++ (c.loop-width.first + c.args.place) ∷ [] = search rules in
          inputs_more c.args.params.now c.loop-width.order.items c.if-place-width.order.items _ c.args.place c.loop-width.first c.loop-width.width-index
          ((c.loop-width.first + c.args.place) ∷ []) c.loop-width-test.true
          (ap (λ (t : Bool). cond t ((c.loop-width.first + c.args.place) ∷ []) []) (lt-ltb _ _ w.if-place-width.true)) pushed c.loop-width.invariant.0
      | else-place-width w ↦
          let same : c.if-place-width.order.items ≡ c.loop-width.order.items = search rules in
          inputs_more c.args.params.now c.loop-width.order.items c.if-place-width.order.items _ c.args.place c.loop-width.first c.loop-width.width-index
          [] c.loop-width-test.true
          (ap (λ (t : Bool). cond t ((c.loop-width.first + c.args.place) ∷ []) []) (le-ltb _ _ w.if-place-width.false))
          (same ∙ sym (append-nil c.loop-width.order.items)) c.loop-width.invariant.0
    ] in
    (more, omega (arith, next, c.loop-width.invariant.1))
