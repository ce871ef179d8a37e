use Rattle.revs_run.proofs.ProgressLemmas.{stops}
use Rattle.std.proofs.Common.{refl}
use Rattle.revs_run.proofs.start.inputs.Goals as goal

pub returns-in_err-numbers : goal.returns-in_err-numbers
returns-in_err-numbers c = stops _ _ c.from_residual.result c.from_residual.ensures.1 c.in_err-numbers.ensures

pub returns-in_err-collect : goal.returns-in_err-collect
returns-in_err-collect c = stops _ _ c.from_residual-in_err-collect.result c.from_residual-in_err-collect.ensures.1 refl
