use Rattle.name_scope.proofs.NearestLemmas.{binds_to_nearest, unbound_has_none}
use Rattle.name_scope.proofs.binding.nearest_binding.Goals as goal

pub returns-clause-bound : goal.returns-clause-bound
returns-clause-bound c = binds_to_nearest

pub returns-clause-unbound : goal.returns-clause-unbound
returns-clause-unbound c = unbound_has_none
