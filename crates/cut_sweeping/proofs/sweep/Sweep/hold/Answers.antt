use Rattle.std.proofs.Common.{◌∙◌}
use Rattle.cut_sweeping.proofs.SweepLemmas.{holds_same}
use Rattle.cut_sweeping.proofs.sweep.Sweep.hold.Goals as goal

pub invariant_of-self : goal.invariant_of-self
invariant_of-self c = holds_same c.self.inside.products c.hold.new.self c.self.inside.cuts c.hold.ensures c.self.invariant

pub returns : goal.returns
returns c = c.hold.ensures ∙ c.self.view_is
