use Rattle.std.proofs.Common.{refl, subst, sym}
use Rattle.circuit_tidy.specs.inside.Walking.{IsLongerIn}
use Rattle.circuit_tidy.specs.inside.Work.{IsSwept}
use Rattle.circuit_tidy.proofs.sweep.swept.Goals as goal

pub walk_over_all-requires-clause-begun : goal.walk_over_all-requires-clause-begun
walk_over_all-requires-clause-begun c =
    let begun = c.in_ok-sweep.ensures in
    record { none = begun.none; all = refl; start = begun.start }

pub walk_over_all-requires-clause-longer : goal.walk_over_all-requires-clause-longer
walk_over_all-requires-clause-longer c = subst (λ flips. IsLongerIn flips c.args.first.now) (sym c.in_ok-sweep.ensures.all) c.requires

pub returns : goal.returns
returns c = subst (λ flips. IsSwept flips c.walk_over_all.new.self.done.items) c.in_ok-sweep.ensures.all c.in_ok-walk_over_all.ensures
