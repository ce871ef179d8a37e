use mir.Val.{bool_byte}
use Rattle.std.proofs.Common.{◌⊎◌, ◌≤◌, length, inl, inr, ap, ◌∙◌, subst, sym, List, arith}
use Rattle.std.proofs.lemmas.List.{take_rest}
use Rattle.linear_forms.specs.declared.form.Term.{Term}
use Rattle.linear_forms.proofs.FormLemmas.{IsAddedSoFar, added_step, all_added, none_added}
use Rattle.linear_forms.proofs.form.added.Goals as goal

pub loop-i-init : goal.loop-i-init
loop-i-init c =
    subst (λ (ts : List Term). IsAddedSoFar c.args.left.now c.args.right.now ts 0 0) (sym c.new-sum.ensures.items)
    (none_added c.args.left.now c.args.right.now)

pub loop-i-preserved : goal.loop-i-preserved
loop-i-preserved c =
    added_step (record { place = 0; word = 0 }) c.args.left.now c.args.right.now c.loop-i.sum.items c.push_next.new.sum.items c.loop-i.i c.loop-i.j
    c.from-i.result c.from-j.result c.in_ok-order.order c.loop-i-test.true c.if-j-right.true
    (c.from-i.ensures ∙ ap bool_byte c.is_le.ensures) (c.from-j.ensures ∙ ap bool_byte c.is_ge.ensures) c.in_ok-order.ensures c.loop-i.invariant

pub returns : goal.returns
returns c =
    rw (
      c.in_ok-extend_from_slice-2.ensures.items,
      c.in_ok-extend_from_slice.ensures.items,
      take_rest c.args.left.now c.loop-i.i,
      take_rest c.args.right.now c.loop-i.j,
    ) (all_added c.args.left.now c.args.right.now c.loop-i.sum.items c.loop-i.i c.loop-i.j c.loop-i.invariant)
