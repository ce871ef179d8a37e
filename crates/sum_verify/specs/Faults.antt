-- Why sums do not verify a circuit that can be compared.
use Rattle.std.specs.Prelude.{◌≡◌}
use Rattle.circuit_verify.specs.Compared.{ComparedView, comparison}
use Rattle.circuit_verify.specs.Verdicts.{IsComparable}
use Rattle.sum_verify.specs.declared.fault.SumsFault.{SumsFault}
use Rattle.sum_verify.specs.declared.fault.SumsFault.TheVariants.{Unsettled, Memory}

-- this comparison is left unsettled, and no other, or there was no memory left
abbrev pub IsSumsFault : ComparedView → SumsFault → Type 0
IsSumsFault v (Unsettled left) = IsComparable (comparison v) × (left ≡ v)
IsSumsFault v (Memory _) = IsComparable (comparison v)
