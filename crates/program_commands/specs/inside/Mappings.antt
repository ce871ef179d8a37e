-- The fault of a command for each fault of a plan. Want of memory comes from want of memory alone.
use Rattle.circuit_plans.specs.Plans.{BudgetView}
use Rattle.circuit_plans.specs.declared.plan.PlanFault.{PlanFault}
use Rattle.circuit_plans.specs.declared.plan.PlanFault.TheVariants as plans
use Rattle.command_answers.specs.declared.fault.Fault.{Fault}
use Rattle.command_answers.specs.declared.fault.Fault.TheVariants.{Lines, Gates, Memory}

abbrev pub plan_fault : BudgetView → PlanFault → Fault
plan_fault budget (plans.Lines need) = Lines need budget.lines
plan_fault budget plans.Gates = Gates budget.gates
plan_fault budget (plans.Memory _) = Memory _
