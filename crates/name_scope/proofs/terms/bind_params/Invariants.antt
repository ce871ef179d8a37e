use Rattle.std.proofs.Common.{◌≡◌, map, take, drop}
use Rattle.revs_terms.specs.Scopes.{nearer, second_of}
use Rattle.name_scope.proofs.terms.bind_params.Given as goal

abbrev pub invariant-loop-param : goal.invariant-loop-param
invariant-loop-param l =
    (second_of l.initial.names l.params ≡ second_of l.names (drop l.param-index l.params)) ×
    (l.names ≡ nearer (map (λ p. p.name) (take l.param-index l.params)) l.initial.names)
