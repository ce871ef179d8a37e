use Rattle.std.proofs.Common.{subst, sym}
use Rattle.cut_sweeping.specs.inside.Regions.{AreRegions}
use Rattle.cut_sweeping.proofs.cuts.Cuts.new.Goals as goal

pub returns : goal.returns
returns c t = record { regions = subst (AreRegions t) (sym c.new.ensures.items) tt; zeros = c.new-2.ensures t }
