use Rattle.std.proofs.Common.{◌∙◌}
use Rattle.cut_sweeping.proofs.SweepLemmas.{holds_same}
use Rattle.cut_sweeping.proofs.sweep.Sweep.let_go.Goals as goal

pub invariant_of-self : goal.invariant_of-self
invariant_of-self c = holds_same c.self.inside.products c.let_go.new.self c.self.inside.cuts c.let_go.ensures c.self.invariant

pub returns : goal.returns
returns c = c.let_go.ensures ∙ c.self.view_is
