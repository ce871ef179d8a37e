-- Scripts: the state behind a step, and behind all of them.
use Rattle.std.specs.Prelude.{◌≡◌, if◌then◌else◌, List, [], ◌∷◌, Option, Some, None, option_and_then}
use Rattle.circuit_plans.specs.declared.roles.Start.{Start}
use Rattle.circuit_plans.specs.Plans.{BudgetView}
use Rattle.sum_graph.specs.Graphs.{first_work}
use Rattle.circuit_plans.specs.Plans.{HasPortLines}
use Rattle.sum_graph.specs.Graphs.{SumGraphView}
use Rattle.line_states.specs.declared.steps.Step.{Step}
use Rattle.line_states.specs.declared.steps.Step.TheVariants as steps
use Rattle.line_states.specs.States.{AreEnded, StatesView, begun, can_copy, can_toggle, copied, has_line, toggled, with_line}

-- the state behind a step; none where the step is refused
abbrev pub took : StatesView → Step → Option StatesView
took s steps.Line = if has_line s then Some (with_line s) else None
took s (steps.Copy from to) = if can_copy s from to then Some (copied s from to) else None
took s (steps.Toggle node onto pairs) =
    if can_toggle s node onto pairs.items then Some (toggled s node onto pairs.items) else None

-- the state behind all steps
abbrev pub took_all : StatesView → List Step → Option StatesView
took_all s [] = Some s
took_all s (x ∷ xs) = option_and_then (λ t. took_all t xs) (took s x)

-- the budget has the lines of the inputs and outputs, and the steps lead from there to an end
pub record LeadToEnd (g : SumGraphView) (b : BudgetView) (start : Start) (script : List Step)
    : Type 0 where
  pub room : HasPortLines (first_work g) b
  pub last : StatesView
  pub is : took_all (begun g b start) script ≡ Some last
  pub ended : AreEnded last
