use Rattle.std.proofs.Common.{◌≡◌, take}
use Rattle.revs_terms.specs.Scopes.{nearer}
use Rattle.name_scope.proofs.names.Names.bind_all.Given as goal

abbrev pub invariant-loop-name : goal.invariant-loop-name
invariant-loop-name l = l.self ≡ nearer (take l.name-index l.names) l.initial.self
