use Rattle.std.proofs.Common.{drop}
use Rattle.revs_run.proofs.StartLemmas.{InBound}
use Rattle.revs_run.proofs.start.bound.Given as goal

abbrev pub invariant-loop-param : goal.invariant-loop-param
invariant-loop-param l = InBound l.bindings.items l.first (drop l.param-index l.params) l.params
