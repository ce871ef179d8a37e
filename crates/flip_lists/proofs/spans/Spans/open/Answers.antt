use Rattle.std.proofs.Common.{◌-◌, ◌≤◌, arith}
use Rattle.flip_lists.specs.Spans.{opened}
use Rattle.flip_lists.proofs.SpanLemmas.{changed_more, changed_up_to}
use Rattle.flip_lists.proofs.spans.Spans.open.Goals as goal

pub returns-then-place-span : goal.returns-then-place-span
returns-then-place-span c =
    changed_up_to (λ span. span.start ≤ c.args.place) (opened c.args.place) c.args.self.now.spans.items c.loop-step.step (c.loop-step.step - 1)
    c.loop-step.self.spans.items c.index-span.result.now c.loop-step.invariant (omega (arith, c.loop-step-test.true)) c.index-span.ensures
    (λ begins. omega (arith, begins, c.if-place-span.true))

pub loop-step-preserved : goal.loop-step-preserved
loop-step-preserved c =
    rw c.opened.ensures
    (changed_more (λ span. span.start ≤ c.args.place) (opened c.args.place) c.args.self.now.spans.items c.loop-step.step (c.loop-step.step - 1)
    c.loop-step.self.spans.items c.index-span.result.now c.loop-step.invariant (omega (arith, c.loop-step-test.true)) c.index-span.ensures
    (omega (arith, c.if-place-span.false)))
