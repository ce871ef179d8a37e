use Rattle.std.proofs.Common.{◌∙◌, refl}
use Rattle.cut_sweeping.proofs.SweepLemmas.{holds_parts, holds_same}
use Rattle.cut_sweeping.proofs.sweep.Sweep.limit_atoms.Goals as goal

pub invariant_of-self : goal.invariant_of-self
invariant_of-self c =
    holds_parts c.limit_atoms.new.self c.self.inside.cuts _ refl refl
    (holds_same c.self.inside.products c.limit_atoms.new.self c.self.inside.cuts c.limit_atoms.ensures c.self.invariant)

pub returns : goal.returns
returns c = c.limit_atoms.ensures ∙ c.self.view_is
