use Rattle.std.proofs.Common.{length}
use Rattle.flip_lists.proofs.SpanLemmas.{IsLeft}
use Rattle.flip_lists.proofs.spans.Spans.drop_before.Given as goal

abbrev pub invariant-earlier : goal.invariant-earlier
invariant-earlier l = IsLeft l.place l.initial.self.spans.items l.self.spans.items

abbrev pub decreases-earlier : goal.decreases-earlier
decreases-earlier l = length l.self.spans.items
