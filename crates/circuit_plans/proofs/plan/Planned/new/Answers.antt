use Rattle.std.proofs.Common.{refl}
use Rattle.circuit_plans.proofs.plan.Planned.new.Goals as goal

pub returns : goal.returns
returns c = refl
