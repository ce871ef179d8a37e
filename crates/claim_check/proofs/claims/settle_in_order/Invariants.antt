use Rattle.std.proofs.Common.{◌≡◌}
use Rattle.claim_check.specs.inside.Numbers.{AreSettled}
use Rattle.claim_check.proofs.claims.settle_in_order.Given as goal

abbrev pub invariant-loop-number : goal.invariant-loop-number
invariant-loop-number l =
    AreSettled l.tape l.schedule.labels.items l.initial.diagram.limit l.number l.diagram l.numbers × (l.diagram.limit ≡ l.initial.diagram.limit)
