use Rattle.std.proofs.Common.{rules}
use Rattle.name_scope.proofs.numbers.bind_name.Goals as goal

pub returns-in_default-clause-binds : goal.returns-in_default-clause-binds
returns-in_default-clause-binds c = search rules

pub returns-clause-binds : goal.returns-clause-binds
returns-clause-binds c = search rules
