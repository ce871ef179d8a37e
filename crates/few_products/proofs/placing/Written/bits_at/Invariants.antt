use Rattle.std.proofs.Common.{take}
use Rattle.few_products.specs.inside.Writing.{StandsFor, only_bits}
use Rattle.few_products.proofs.placing.Written.bits_at.Given as goal

abbrev pub invariant-loop-base : goal.invariant-loop-base
invariant-loop-base l = StandsFor l.self.inputs l.self.places.items (only_bits (take l.base-index l.bits) l.one) l.sum
