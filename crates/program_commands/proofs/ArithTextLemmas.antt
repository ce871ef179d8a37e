-- The texts of all kinds compute what their kind says.
use Rattle.std.proofs.Common.{refl}
use Rattle.program_commands.specs.Texts.{TextsCompute}
use Rattle.arith_laws.proofs.IncrementLemmas.{incrementers_add_one}
use Rattle.arith_laws.proofs.MultiplierLemmas.{multipliers_multiply}
use Rattle.arith_laws.proofs.AdderLemmas.{adders_add}
use Rattle.arith_laws.proofs.ComparatorLemmas.{comparators_compare}
use Rattle.arith_laws.proofs.SubtractorLemmas.{subtractors_subtract}
use Rattle.arith_templates.specs.declared.kind.Kind.TheVariants.{Add, Sub, Less, Inc, Mul}

pub texts_compute : TextsCompute
texts_compute Add n by size = adders_add n by size.some size.few
texts_compute Sub n by size = subtractors_subtract n by size.some size.few
texts_compute Less n by size = comparators_compare n by size.some size.few
texts_compute Inc n by size = incrementers_add_one n by size.some size.few
texts_compute Mul n by size =
    let factor = size.factor refl in multipliers_multiply n by size.some size.few factor.0 factor.1
