use Rattle.std.proofs.Common.{◌≡◌, ℕ, IfErr, OnOk, ap, sym, length, subst, arith}
use Rattle.decision_diagram.specs.Diagrams.{DiagramView}
use Rattle.claim_check.specs.Claims.{HoldWithin, IsClaimFault}
use Rattle.claim_check.specs.inside.Numbers.{AreSettled}
use Rattle.claim_check.specs.inside.Slots.{slots_of}
use Rattle.claim_check.proofs.OutcomeLemmas.{none_settled}
use Rattle.claim_check.proofs.claims.settle_by.Goals as goal

pub settle_in_order-requires-clause-settled : goal.settle_in_order-requires-clause-settled
settle_in_order-requires-clause-settled c =
    let t = c.args.tape.now in
    let labels = c.args.schedule.now.labels.items in
    let d = c.in_ok-diagram.diagram in
    let numbers = c.deref_mut.result.now in
    let size : length numbers ≡ slots_of t =
    omega (
      arith,
      ap length c.deref_mut.ensures.value,
      c.in_ok-numbers.ensures,
      c.len.ensures,
      c.args.schedule.now.labels.ok.0,
      c.requires.schedule.labels.sound.size,
    ) in
    subst (λ (l : ℕ). AreSettled t labels l 0 d numbers) (sym (ap (λ (e : DiagramView). e.limit) c.in_ok-diagram.ensures.empty))
    (none_settled t labels c.args.limit c.inputs.result d numbers c.inputs.ensures.inputs
    c.in_ok-diagram.ensures.canonical c.in_ok-diagram.ensures.empty size)

pub returns-clause-hold : goal.returns-clause-hold
returns-clause-hold c = subst (λ (l : ℕ). OnOk c.settle_in_order.result (HoldWithin c.args.tape.now l))
    (ap (λ (e : DiagramView). e.limit) c.in_ok-diagram.ensures.empty) c.settle_in_order.ensures.hold

pub returns-clause-refused : goal.returns-clause-refused
returns-clause-refused c = subst (λ (l : ℕ). IfErr c.settle_in_order.result (IsClaimFault c.args.tape.now l))
    (ap (λ (e : DiagramView). e.limit) c.in_ok-diagram.ensures.empty) c.settle_in_order.ensures.refused
