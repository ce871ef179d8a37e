use Rattle.std.proofs.Common.{◌≡◌, ◌-◌, ◌+◌}
use Rattle.claim_check.specs.inside.Numbers.{AreMade, HasLabel}
use Rattle.claim_check.specs.inside.Tables.{HoldsOnlyMembers}
use Rattle.claim_check.proofs.numbers.number_claim.Given as goal

abbrev pub invariant-chain : goal.invariant-chain
invariant-chain l =
    HoldsOnlyMembers l.tape (l.claim + 1) l.diagram
    × AreMade l.tape l.schedule.labels.items l.claim l.slot l.diagram.nodes l.numbers
    × HasLabel l.schedule.labels.items l.claim l.slot
    × (l.diagram.limit ≡ l.initial.diagram.limit)

abbrev pub decreases-chain : goal.decreases-chain
decreases-chain l = l.slots - l.slot
