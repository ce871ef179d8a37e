use Rattle.std.proofs.Common.{◌≡◌, ◌≤◌, false, length, drop}
use Rattle.std.specs.List.{AllByRecursion}
use Rattle.flip_lists.specs.inside.Index.{is_like_in, slot_at}
use Rattle.flip_lists.proofs.index.partner.Given as goal

abbrev pub invariant-search : goal.invariant-search
invariant-search l =
    (l.left ≤ length l.places) × AllByRecursion (λ place. is_like_in l.flip (slot_at l.slots place) ≡ false) (drop l.left l.places)

abbrev pub decreases-search : goal.decreases-search
decreases-search l = l.left
