use Rattle.name_scope.proofs.RepeatedLemmas.{refuses_first_repeated, passes_own_names}
use Rattle.name_scope.proofs.binding.repeated_parameter.Goals as goal

pub returns-clause-refused : goal.returns-clause-refused
returns-clause-refused c = refuses_first_repeated

pub returns-clause-passed : goal.returns-clause-passed
returns-clause-passed c = passes_own_names
