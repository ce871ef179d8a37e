use Rattle.std.proofs.Common.{◌∙◌}
use Rattle.cut_sweeping.proofs.SweepLemmas.{holds_same}
use Rattle.cut_sweeping.proofs.sweep.Sweep.added.Goals as goal

pub invariant_of-self : goal.invariant_of-self
invariant_of-self c = holds_same c.self.inside.products c.sum.new.self c.self.inside.cuts c.sum.ensures.same c.self.invariant

pub returns-clause-same : goal.returns-clause-same
returns-clause-same c = c.sum.ensures.same ∙ c.self.view_is
