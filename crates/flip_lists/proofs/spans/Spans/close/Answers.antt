use Rattle.std.proofs.Common.{◌-◌, ◌≤◌, arith}
use Rattle.flip_lists.specs.Spans.{closed}
use Rattle.flip_lists.proofs.SpanLemmas.{changed_more, changed_up_to}
use Rattle.flip_lists.proofs.spans.Spans.close.Goals as goal

pub returns-then-span-place : goal.returns-then-span-place
returns-then-span-place c =
    changed_up_to (λ span. c.args.place ≤ span.end) (closed c.args.place) c.args.self.now.spans.items c.loop-step.step (c.loop-step.step - 1)
    c.loop-step.self.spans.items c.index-span.result.now c.loop-step.invariant (omega (arith, c.loop-step-test.true)) c.index-span.ensures
    (λ reaches. omega (arith, reaches, c.if-span-place.true))

pub loop-step-preserved : goal.loop-step-preserved
loop-step-preserved c =
    rw c.closed.ensures
    (changed_more (λ span. c.args.place ≤ span.end) (closed c.args.place) c.args.self.now.spans.items c.loop-step.step (c.loop-step.step - 1)
    c.loop-step.self.spans.items c.index-span.result.now c.loop-step.invariant (omega (arith, c.loop-step-test.true)) c.index-span.ensures
    (omega (arith, c.if-span-place.false)))
