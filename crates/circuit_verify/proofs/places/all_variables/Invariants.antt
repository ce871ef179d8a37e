use Rattle.std.proofs.Common.{◌≡◌, ◌+◌, ◌-◌, ◌++◌, map}
use Rattle.list_facts.specs.Lists.{below}
use Rattle.circuit_verify.proofs.places.all_variables.Given as goal

abbrev pub invariant-loop-variable : goal.invariant-loop-variable
invariant-loop-variable l =
    l.all.items ≡ l.initial.all.items ++ map (λ i. l.initial.variable + i) (below (l.variable - l.initial.variable))
