-- A plan of one function is a plan of another one with its values.
use Rattle.std.proofs.Common.{◌≡◌, ℕ, Bool, List, arith, ◌∙◌, Some, None, Ok, Err}
use Rattle.std.specs.Prelude.{IfOk, IfSome, Option, Result}
use Rattle.circuit_plans.specs.declared.roles.Start.{Start}
use Rattle.circuit_plans.specs.Plans.{BudgetView, IsNarrowPlan, PlannedView, roles_of_plan}
use Rattle.eager_cleanup.proofs.PlanLemmas.{same_outputs}

module _ {n m i o : ℕ} {f g : List Bool → List Bool} (inputs : n ≡ i) (outputs : m ≡ o) (values : (input : List Bool) → f input ≡ g input)
    (start : Start) (b : BudgetView)
  where
    pub same_plan : (p : PlannedView) → IsNarrowPlan start n m f b p → IsNarrowPlan start i o g b p
    same_plan p plan = record {
      ports = record {
        inputs = plan.ports.inputs ∙ inputs;
        outputs = plan.ports.outputs ∙ outputs;
        lines = omega (arith, plan.ports.lines, inputs, outputs);
      };
      clean = same_outputs start (roles_of_plan p) p.circuit.gates f g values plan.clean;
      within = plan.within;
      narrow = plan.narrow;
    }

    pub same_found : (found : Option PlannedView) → IfSome found (IsNarrowPlan start n m f b) → IfSome found (IsNarrowPlan start i o g b)
    same_found None is = tt
    same_found (Some p) is = same_plan p is

    pub same_answer : {E : Type 0} (r : Result (Option PlannedView) E) → IfOk r (λ found. IfSome found (IsNarrowPlan start n m f b))
        → IfOk r (λ found. IfSome found (IsNarrowPlan start i o g b))
    same_answer (Ok found) is = same_found found is
    same_answer (Err e) is = tt
