use Rattle.std.proofs.Common.{◌<◌, Bool, length}
use Rattle.std.specs.List.{AllByRecursion}
use Rattle.flip_lists.specs.declared.flip.Flip.{Flip}
use Rattle.flip_lists.specs.inside.Index.{ArePlaces}
use Rattle.flip_lists.proofs.index.behind_last.Given as goal

abbrev pub invariant-emptied : goal.invariant-emptied
invariant-emptied l =
    AllByRecursion (λ place. place < length l.slots) l.places.items
    × ((test : Flip → Bool) → ArePlaces l.slots test l.initial.places.items → ArePlaces l.slots test l.places.items)

abbrev pub decreases-emptied : goal.decreases-emptied
decreases-emptied l = length l.places.items
