use Rattle.real_format.proofs.VerdictLemmas.{one_reading, some_reading}
use Rattle.real_format.proofs.law.one_reading.Goals as goal

pub returns-clause-one : goal.returns-clause-one
returns-clause-one c = one_reading

pub returns-clause-some : goal.returns-clause-some
returns-clause-some c = some_reading
