use Rattle.std.proofs.Common.{take}
use Rattle.single_products.specs.inside.Renumbering.{IsRenumberedSet}
use Rattle.single_products.proofs.renumbering.renumbered_factor.Given as goal

abbrev pub invariant-loop-base : goal.invariant-loop-base
invariant-loop-base l = IsRenumberedSet l.places (take l.base-index l.bits) l.set.items
