use Rattle.std.proofs.Common.{ap}
use Rattle.circuit_plans.specs.Plans.{roles_of}
use Rattle.circuit_plans.proofs.plan.Laid.roles.Goals as goal

pub returns : goal.returns
returns c = ap roles_of c.self.view_is
