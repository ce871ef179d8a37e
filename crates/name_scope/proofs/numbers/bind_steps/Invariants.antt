use Rattle.revs_terms.specs.Scopes.{scoped_num}
use Rattle.name_scope.proofs.InOrderLemmas.{IsBoundTo}
use Rattle.name_scope.proofs.numbers.bind_steps.Given as goal

abbrev pub invariant-loop-i : goal.invariant-loop-i
invariant-loop-i l = IsBoundTo (scoped_num l.names) l.initial.steps l.steps l.i
