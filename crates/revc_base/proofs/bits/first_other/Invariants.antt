use Rattle.std.proofs.Common.{take}
use Rattle.std.specs.List.{AllByRecursion}
use Rattle.revc_base.specs.Bits.{IsDigit}
use Rattle.revc_base.proofs.bits.first_other.Given as goal

abbrev pub invariant-loop-at : goal.invariant-loop-at
invariant-loop-at l = AllByRecursion IsDigit (take l.at l.word)
