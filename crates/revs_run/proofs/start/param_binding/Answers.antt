use Rattle.revs_run.proofs.ProgressLemmas.{stops}
use Rattle.revs_run.proofs.start.param_binding.Goals as goal

pub returns-in_err-param_value : goal.returns-in_err-param_value
returns-in_err-param_value c = stops _ _ c.from_residual.result c.from_residual.ensures.1 c.in_err-param_value.ensures
