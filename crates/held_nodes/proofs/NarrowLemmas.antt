-- Toggles and copies are flips of at most two controls, all positive.
use Rattle.std.proofs.Common.{◌≡◌, ℕ, ◌+◌, List, [], ◌∷◌, ◌++◌, reverse, Option, Ok, Err, subst, sym, length}
use Rattle.std.specs.Prelude.{IfOk, Result}
use Rattle.list_facts.proofs.AllLemmas.{AllByRecursion-append, AllByRecursion-reverse}
use Rattle.bit_sums.specs.Sums.{SumView}
use Rattle.circuit_plans.specs.declared.plan.PlanFault.{PlanFault}
use Rattle.circuit_plans.specs.declared.roles.Start.TheVariants.{Any}
use Rattle.circuit_plans.specs.Plans.{AddsOutputs, BudgetView, PlannedView}
use Rattle.mct_circuit.specs.Gates.{AreNarrow, IsNarrow}
use Rattle.sum_graph.specs.Graphs.{SumGraphView, sum_outputs}
use Rattle.sum_toggles.specs.Toggles.{base_line, sum_gates}
use Rattle.sum_toggles.proofs.SumLemmas.{narrow_sum}
use Rattle.held_nodes.specs.Held.{ForwardView}
use Rattle.sum_graph.specs.Graphs.{first_work}
use Rattle.held_nodes.specs.Moves.{IsToggled, copies_from, copies_of, finished_gates, planned_of, toggle_of}
use Rattle.circuit_plans.specs.Plans.{roles_of_plan}
use Rattle.held_nodes.specs.Plans.{TogglesAreNarrow}
use Rattle.circuit_plans.specs.Plans.{HasPorts, IsInBudget, IsNarrowPlan}

all_copies : (first : ℕ) (lines : List (Option ℕ)) (target : ℕ) (sums : List SumView) → AreNarrow (copies_from first lines target sums)
all_copies first lines target [] = tt
all_copies first lines target (s ∷ rest) =
    AllByRecursion-append IsNarrow (sum_gates (base_line first lines) target s) (copies_from first lines (target + 1) rest)
    (narrow_sum (base_line first lines) target s) (all_copies first lines (target + 1) rest)

toggled : (f next : ForwardView) (k : ℕ) → IsToggled f k next → AreNarrow f.gates → AreNarrow next.gates
toggled f next k t narrow =
    subst (λ (g : ForwardView). AreNarrow g.gates) (sym t.becomes)
    (AllByRecursion-append IsNarrow f.gates (toggle_of (first_work f.graph) f.lines t.line t.node) narrow
    (narrow_sum (base_line (first_work f.graph) f.lines) (first_work f.graph + t.line) t.node))

finished : (f : ForwardView) → AreNarrow f.gates → AreNarrow (finished_gates f)
finished f narrow =
    AllByRecursion-append IsNarrow (f.gates ++ copies_of f) (reverse f.gates)
    (AllByRecursion-append IsNarrow f.gates (copies_of f) narrow (all_copies (first_work f.graph) f.lines f.graph.inputs f.graph.outputs))
    (AllByRecursion-reverse IsNarrow f.gates narrow)

pub narrow_toggles : TogglesAreNarrow
narrow_toggles = record { toggled = toggled; finished = finished }

-- the plan of a finished forward part of narrow gates
pub narrow_plan : (s : SumGraphView) (b : BudgetView) (f : ForwardView) (made : Result PlannedView PlanFault) → IfOk made (λ p. p ≡ planned_of f)
    → AreNarrow (finished_gates f) → IfOk made (HasPorts s.inputs (length s.outputs))
    → IfOk made (λ p. AddsOutputs Any (roles_of_plan p) p.circuit.gates (sum_outputs s))
    → IfOk made (IsInBudget b) → IfOk made (IsNarrowPlan Any s.inputs (length s.outputs) (sum_outputs s) b)
narrow_plan s b f (Ok p) is narrow ports clean within = record {
  ports = ports;
  clean = clean;
  within = within;
  narrow = subst (λ (q : PlannedView). AreNarrow q.circuit.gates) (sym is) narrow;
}
narrow_plan s b f (Err e) is narrow ports clean within = tt
