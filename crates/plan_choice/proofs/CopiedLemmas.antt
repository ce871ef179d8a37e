-- The copied plan, and the law of depth.
use Rattle.std.proofs.Common.{◌≡◌, ap, arith, Ok, Err}
use Rattle.std.specs.Prelude.{IfOk, Result}
use Rattle.circuit_plans.specs.declared.plan.PlanFault.{PlanFault}
use Rattle.circuit_plans.specs.Plans.{BudgetView, LaidView, PlannedView}
use Rattle.claim_check.specs.Settled.{SettledView}
use Rattle.copied_plans.specs.Plans.{CopiedFits, IsCopiedPlan}
use Rattle.flip_orders.specs.Orders.{IsReorderedPlan}
use Rattle.mct_circuit.specs.Sizes.{toffoli_depth_of}
use Rattle.plan_choice.specs.Choices.{IsShallow}
use Rattle.plan_choice.specs.inside.Tried.{HasSmallDepth, IsCopied, IsLaidAsIs, IsShallowFor}
use Rattle.plan_choice.proofs.ShallowLemmas.{shallow_laid, shallow_reordered}

-- the copied plan, laid and in another order
pub copied_laid : (s : SettledView) (b : BudgetView) (p : PlannedView) (laid new : LaidView) → IsCopiedPlan s b p → IsLaidAsIs p b laid
    → IsReorderedPlan laid new → IsCopied s b new
copied_laid s b p laid new copied kept is = record {
  is = shallow_reordered s b laid new is (shallow_laid s b p laid copied.plan kept);
  depth = let same : toffoli_depth_of laid.circuit.gates ≡ toffoli_depth_of p.circuit.gates = ap toffoli_depth_of kept.same in
      omega (arith, is.gates.toffoli_depth, same, copied.shallow);
}

-- a plan that is no deeper keeps the law
pub small_is_shallow : (s : SettledView) (b : BudgetView) (laid : LaidView) → IsShallowFor s b laid
    → HasSmallDepth s laid → IsShallow s b laid
small_is_shallow s b laid is small = record { narrow = is.narrow; depth = λ m within fits. small }

pub small_tried : (s : SettledView) (b : BudgetView) (tried : Result LaidView PlanFault) → IfOk tried (IsShallowFor s b) → IfOk tried (HasSmallDepth s)
    → IfOk tried (IsShallow s b)
small_tried s b (Ok laid) is small = small_is_shallow s b laid is small
small_tried s b (Err fault) is small = tt

-- and so does any where the row does not fit
pub no_row_is_shallow : (s : SettledView) (b : BudgetView) (laid : LaidView) → IsShallowFor s b laid → ¬ CopiedFits s b → IsShallow s b laid
no_row_is_shallow s b laid is none = record {
  narrow = is.narrow;
  depth = λ m within fits. absurd (none (record {
    lines = omega (arith, within.inputs, within.outputs, within.steps, fits.few_lines);
    gates = omega (arith, within.outputs, within.steps, fits.few_gates);
  }));
}
