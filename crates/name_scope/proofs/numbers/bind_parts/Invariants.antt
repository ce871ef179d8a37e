use Rattle.revs_terms.specs.Scopes.{scoped_parts}
use Rattle.name_scope.proofs.InOrderLemmas.{IsBoundTo}
use Rattle.name_scope.proofs.numbers.bind_parts.Given as goal

abbrev pub invariant-loop-i : goal.invariant-loop-i
invariant-loop-i l = IsBoundTo (scoped_parts l.names) l.initial.parts l.parts l.i
