use Rattle.std.proofs.Common.{subst, sym}
use Rattle.std.specs.List.{AllByRecursion}
use Rattle.sum_cuts.specs.Cuts.{IsZero}
use Rattle.cut_sweeping.proofs.zeros.Zeros.new.Goals as goal

pub returns : goal.returns
returns c t = record { each = subst (AllByRecursion (IsZero t)) (sym c.new.ensures.items) tt }
