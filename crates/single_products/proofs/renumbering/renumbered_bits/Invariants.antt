use Rattle.std.proofs.Common.{take}
use Rattle.single_products.specs.inside.Renumbering.{IsRenumbered}
use Rattle.single_products.proofs.RenumberingLemmas.{only_bits}
use Rattle.single_products.proofs.renumbering.renumbered_bits.Given as goal

abbrev pub invariant-loop-base : goal.invariant-loop-base
invariant-loop-base l = IsRenumbered l.places (only_bits (take l.base-index l.sum.bits) l.sum.one) l.whole
