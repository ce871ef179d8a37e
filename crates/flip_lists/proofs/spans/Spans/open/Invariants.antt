use Rattle.std.proofs.Common.{◌≤◌}
use Rattle.flip_lists.specs.Spans.{opened}
use Rattle.flip_lists.proofs.SpanLemmas.{AreChanged}
use Rattle.flip_lists.proofs.spans.Spans.open.Given as goal

abbrev pub invariant-loop-step : goal.invariant-loop-step
invariant-loop-step l = AreChanged (λ span. span.start ≤ l.place) (opened l.place) l.initial.self.spans.items l.step l.self.spans.items
