use Rattle.cut_sweeping.proofs.cuts.Cuts.follow.Goals as goal

pub returns : goal.returns
returns c t holds = record { regions = holds.regions; zeros = c.follow.ensures t holds.zeros }
