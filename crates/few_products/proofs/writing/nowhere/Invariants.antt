use Rattle.few_products.specs.inside.Writing.{HaveNoPlace}
use Rattle.few_products.proofs.writing.nowhere.Given as goal

abbrev pub invariant-loop-number : goal.invariant-loop-number
invariant-loop-number l = HaveNoPlace l._number l.places.items
