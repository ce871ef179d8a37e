-- Plans of small Toffoli depth.
use Rattle.std.proofs.Common.{◌≡◌, ℕ, ◌≤◌, length, ap, subst, sym, ◌∙◌, inl, inr, None, Ok, Err, ok_or}
use Rattle.std.specs.Prelude.{◌⊎◌, IfErr, IfOk, IfSome, Option, Some, Result}
use Rattle.std.proofs.lemmas.Result.{IfErr-weaker}
use Rattle.circuit_plans.specs.declared.choice.Plan.TheVariants.{Lean, Shallow}
use Rattle.circuit_plans.specs.declared.plan.PlanFault.{PlanFault}
use Rattle.circuit_plans.specs.declared.plan.PlanFault.TheVariants.{Lines, Gates, Memory}
use Rattle.circuit_plans.specs.declared.roles.Roles.{Roles}
use Rattle.circuit_plans.specs.declared.roles.Start.TheVariants.{Any}
use Rattle.circuit_plans.specs.Plans.{AddsOutputs, BudgetView, IsNarrowPlan, LaidView, PlannedView}
use Rattle.claim_check.specs.Settled.{SettledView, settled_outputs}
use Rattle.few_products.specs.Fewer.{IsFewerOf}
use Rattle.flip_orders.specs.Orders.{IsReorderedPlan}
use Rattle.flip_orders.proofs.ReorderingLemmas.{length-reordered, narrow-reordered}
use Rattle.mct_circuit.specs.Gates.{AreNarrow}
use Rattle.single_products.specs.Singles.{IsSingleOf}
use Rattle.sum_graph.specs.Graphs.{IsLeanOf, SumGraphView}
use Rattle.plan_choice.specs.Choices.{IsChoiceFault, IsLaidFor, IsLean}
use Rattle.plan_choice.specs.inside.Tried.{HasOutputsOf, IsLaidAsIs, IsShallowFor}

pub lean_outputs : (s : SettledView) (l : SumGraphView) → IsLeanOf s l → HasOutputsOf s l
lean_outputs s l lean = record { inputs = lean.inputs; outputs = lean.outputs; values = lean.values }

pub single_outputs : (s : SettledView) (l single : SumGraphView) → HasOutputsOf s l → IsSingleOf l single → HasOutputsOf s single
single_outputs s l single has is = record {
  inputs = is.inputs ∙ has.inputs;
  outputs = is.outputs ∙ has.outputs;
  values = λ input. is.values input ∙ has.values input;
}

-- a graph with fewer products than the lean one has its outputs
pub fewer_outputs : (s : SettledView) (l f : SumGraphView) → IsLeanOf s l → IsFewerOf l f → HasOutputsOf s f
fewer_outputs s l f lean is = record {
  inputs = is.inputs ∙ lean.inputs;
  outputs = is.outputs ∙ lean.outputs;
  values = λ input. is.values input ∙ lean.values input;
}

-- a narrow plan of the settled graph, laid
pub shallow_laid : (s : SettledView) (b : BudgetView) (p : PlannedView) (laid : LaidView)
    → IsNarrowPlan Any s.inputs (length s.outputs) (settled_outputs s) b p → IsLaidAsIs p b laid → IsShallowFor s b laid
shallow_laid s b p laid plan kept =
    let of = kept.laid_of in
    record {
      laid_for = record {
        inputs = of.inputs ∙ plan.ports.inputs;
        outputs = of.outputs ∙ plan.ports.outputs;
        borrowed = of.borrowed;
        lines = of.lines;
        gates = of.gates;
        clean = of.clean Any (settled_outputs s) plan.clean;
      };
      narrow = subst AreNarrow (sym kept.same) plan.narrow;
    }

-- gates in another order leave it one
pub shallow_reordered : (s : SettledView) (b : BudgetView) (old new : LaidView) → IsReorderedPlan old new → IsShallowFor s b old → IsShallowFor s b new
shallow_reordered s b old new is of =
    let was = of.laid_for in
    record {
      laid_for = record {
        inputs = ap (λ (r : Roles). r.inputs) is.roles ∙ was.inputs;
        outputs = ap (λ (r : Roles). r.outputs) is.roles ∙ was.outputs;
        borrowed = ap (λ (r : Roles). r.borrowed) is.roles ∙ was.borrowed;
        lines = subst (λ (n : ℕ). n ≤ b.lines) (sym is.lines) was.lines;
        gates = subst (λ (n : ℕ). n ≤ b.gates) (sym (length-reordered old.circuit.gates new.circuit.gates is.gates)) was.gates;
        clean = subst (λ (r : Roles). AddsOutputs Any r new.circuit.gates (settled_outputs s)) (sym is.roles) (record {
          size = was.clean.size;
          adds = λ input held borrowed size wide may long. record {
            mapped = is.gates.same _ ∙ (was.clean.adds input held borrowed size wide may long).mapped;
          };
        });
      };
      narrow = narrow-reordered old.circuit.gates new.circuit.gates is.gates of.narrow;
    }

-- the better of two plans is one
pub shallow_best : (s : SettledView) (b : BudgetView) (old best : LaidView) (found : Option LaidView) → IsShallowFor s b old
    → IfSome found (IsShallowFor s b) → IsReorderedPlan old best ⊎ (found ≡ Some best) → IsShallowFor s b best
shallow_best s b old best found was also (inl same) = shallow_reordered s b old best same was
shallow_best s b old best found was also (inr other) = subst (λ (o : Option LaidView). IfSome o (IsShallowFor s b)) other also

-- ---- the plan of the lean graph

pub shallow_of_lean : (s : SettledView) (b : BudgetView) (tried : Result LaidView PlanFault) → IfOk tried (IsLaidFor Any s b) → IfOk tried (IsLean s b)
    → IfOk tried (IsShallowFor s b)
shallow_of_lean s b (Ok laid) is lean = record { laid_for = is; narrow = lean.narrow }
shallow_of_lean s b (Err fault) is lean = tt

shallow_fault : (s : SettledView) (b : BudgetView) (fault : PlanFault) → IsChoiceFault Lean s b fault → IsChoiceFault Shallow s b fault
shallow_fault s b (Lines need) h = (record { few = h.0.few; no_row = h.0.no_row }, h.1)
shallow_fault s b Gates h = record { few = h.few; no_row = h.no_row }
shallow_fault s b (Memory _) h = h

pub shallow_refused : (s : SettledView) (b : BudgetView) (tried : Result LaidView PlanFault) → IfErr tried (IsChoiceFault Lean s b)
    → IfErr tried (IsChoiceFault Shallow s b)
shallow_refused s b tried h = IfErr-weaker tried (IsChoiceFault Lean s b) (IsChoiceFault Shallow s b) (shallow_fault s b) h

-- ---- what was found, where no plan was laid

pub found_ok : (s : SettledView) (b : BudgetView) (found : Option LaidView) (fault : PlanFault) (r : Result LaidView PlanFault)
    → IfSome found (IsShallowFor s b) → r ≡ ok_or found fault → IfOk r (IsShallowFor s b)
found_ok s b found fault r is same = subst (λ (x : Result LaidView PlanFault). IfOk x (IsShallowFor s b)) (sym same) (of_either found is)
  where
    of_either : (o : Option LaidView) → IfSome o (IsShallowFor s b) → IfOk (ok_or o fault) (IsShallowFor s b)
    of_either None is = tt
    of_either (Some laid) is = is

pub found_err : (s : SettledView) (b : BudgetView) (found : Option LaidView) (fault : PlanFault) (r : Result LaidView PlanFault)
    → IsChoiceFault Shallow s b fault → r ≡ ok_or found fault → IfErr r (IsChoiceFault Shallow s b)
found_err s b found fault r is same = subst (λ (x : Result LaidView PlanFault). IfErr x (IsChoiceFault Shallow s b)) (sym same) (of_either found)
  where
    of_either : (o : Option LaidView) → IfErr (ok_or o fault) (IsChoiceFault Shallow s b)
    of_either None = is
    of_either (Some laid) = tt
