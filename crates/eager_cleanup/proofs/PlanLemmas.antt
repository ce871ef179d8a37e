-- The beginning and the end of the eager plan.
use Rattle.std.proofs.Common.{◌≡◌, ℕ, zero, suc, ◌+◌, ◌*◌, ◌≤◌, Bool, false, List, [], ◌∷◌, ◌++◌, inl, inr}
use Rattle.std.proofs.Common.{length, map, sum_by, replicate, Option, None, is_some, refl, sym, ap, ◌∙◌, subst, arith}
use Rattle.std.specs.List.{AllByRecursion}
use Rattle.std.proofs.lemmas.Bool.{true≢false}
use Rattle.claim_check.specs.Budgets.{Measures, eager_gates}
use Rattle.claim_check.specs.Measures.{IsWithin}
use Rattle.claim_check.specs.Settled.{SettledView, IsSettled, settled_outputs}
use Rattle.std.proofs.lemmas.List.{length-map}
use Rattle.sum_graph.specs.Graphs.{SumGraphView, sum_outputs}
use Rattle.sum_graph.specs.Plain.{plain_of, plain_output, plain_sum}
use Rattle.sum_graph.proofs.PlainLemmas.{plain_graphs_are_alike}
use Rattle.mct_circuit.specs.Gates.{GateView}
use Rattle.circuit_plans.specs.declared.roles.Roles.{Roles}
use Rattle.circuit_plans.specs.declared.roles.Start.{Start}
use Rattle.circuit_plans.specs.declared.roles.Start.TheVariants.{Any}
use Rattle.sum_toggles.specs.Toggles.{toggle_weight}
use Rattle.dependency_graph.specs.declared.node.Base.TheVariants as bases
use Rattle.dependency_graph.specs.declared.node.Sig.{Sig}
use Rattle.dependency_graph.specs.declared.node.Sig.TheVariants.{Const, Is}
use Rattle.dependency_graph.specs.Graphs.{IsKnownSig}
use Rattle.circuit_plans.specs.declared.plan.PlanFault.{PlanFault}
use Rattle.circuit_plans.specs.declared.plan.PlanFault.TheVariants.{Lines, Gates, Memory}
use Rattle.circuit_plans.specs.Plans.{AddsOutputs, BudgetView, PlannedView, added}
use Rattle.held_nodes.specs.Held.{ForwardView, IsForward, held_line, is_held}
use Rattle.sum_graph.specs.Graphs.{first_work}
use Rattle.held_nodes.specs.Moves.{IsFinishFault, IsReadySum, copies_from, copies_of, nothing_held, planned_of}
use Rattle.list_facts.specs.Lists.{IsAmong}
use Rattle.eager_cleanup.specs.Eager.{IsEagerFault, IsWithinEager}
use Rattle.eager_cleanup.specs.inside.Sweeps.{IsSwept, gates_in}
use Rattle.eager_cleanup.proofs.BoundLemmas.{cost_in, costs_bound, has_port_lines, lines_enough, paid_all, ports_are, total_within}
use Rattle.eager_cleanup.proofs.CostLemmas.{light_forward, most-copies, most-finished, most_in, weight-copies-le}
use Rattle.eager_cleanup.proofs.UserLemmas.{output_last}

-- ---- the beginning

no_line : (n k : ℕ) → held_line (replicate n None) k ≡ None
no_line zero k = refl
no_line (suc n) zero = refl
no_line (suc n) (suc k) = no_line n k

none_held : (n k : ℕ) → is_held (replicate n None) k ≡ false
none_held n k = ap (λ (x : Option ℕ). is_some x) (no_line n k)

begun_here : (s : SettledView) (b : BudgetView) → IsSettled s → IsForward (nothing_held (plain_of s) b (replicate (length s.nodes) None))
    → IsSwept s b 0 [] (nothing_held (plain_of s) b (replicate (length s.nodes) None))
begun_here s b settled forward = record {
  settled = settled;
  forward = forward;
  graph = refl;
  budget = refl;
  behind = λ k late. none_held (length s.nodes) k;
  needed = λ k low later. absurd (omega (arith, low));
  cleaned = λ none k held early. absurd (true≢false (sym held ∙ none_held (length s.nodes) k));
  most = omega arith;
  few = λ none width bounds. omega arith;
  gates = λ cost bounds. omega arith;
}

pub begun : (s : SettledView) (g : SumGraphView) (b : BudgetView) (f : ForwardView) → IsSettled s → g ≡ plain_of s
    → f ≡ nothing_held g b (replicate (length g.nodes) None) → IsForward f → IsSwept s b 0 [] f
begun s g b f settled plain e is =
    let start : f ≡ nothing_held (plain_of s) b (replicate (length s.nodes) None) =
    e ∙ ap (λ (h : SumGraphView). nothing_held h b (replicate (length h.nodes) None)) plain
    ∙ ap (λ (n : ℕ). nothing_held (plain_of s) b (replicate n None)) (length-map s.nodes plain_sum) in
    subst (IsSwept s b 0 []) (sym start) (begun_here s b settled (subst IsForward start is))

-- ---- the end

-- the outputs are constants, inputs, or held
pub outputs_ready : (s : SettledView) (b : BudgetView) (f : ForwardView)
    → IsSwept s b (length s.nodes) [] f → AllByRecursion (IsReadySum f.lines) f.graph.outputs
outputs_ready s b f is =
    subst (λ (g : SumGraphView). AllByRecursion (IsReadySum f.lines) g.outputs) (sym is.graph) (all_ready s.outputs is.settled.outputs (λ sig among. among))
  where
    ready : (sig : Sig) → IsKnownSig s.inputs (length s.nodes) sig → IsAmong sig s.outputs → IsReadySum f.lines (plain_output sig)
    ready (Const bit) known among = tt
    ready (Is (bases.Input i)) known among = (tt, tt)
    ready (Is (bases.Node k)) low among = (is.needed k low (omega (arith, output_last s k among)), tt)

    all_ready : (sigs : List Sig) → AllByRecursion (IsKnownSig s.inputs (length s.nodes)) sigs → ((sig : Sig) → IsAmong sig sigs → IsAmong sig s.outputs)
        → AllByRecursion (IsReadySum f.lines) (map plain_output sigs)
    all_ready [] known among = tt
    all_ready (x ∷ xs) known among =
        (ready x known.0 (among x (inl refl)), all_ready xs known.1 (λ sig later. among sig (inr later)))

gates_enough : (s : SettledView) (b : BudgetView) (f : ForwardView) (m : Measures)
    → IsSwept s b (length s.nodes) [] f → IsWithin s m → 2 * gates_in f + length f.graph.outputs ≤ eager_gates m
gates_enough s b f m is within =
    let outputs = ap (λ (g : SumGraphView). length g.outputs) is.graph ∙ length-map s.outputs plain_output in
    let cost : ℕ → ℕ = cost_in s m within in
    let paid = is.gates cost (costs_bound s m within) in
    omega (arith, outputs, within.outputs, paid, paid_all s cost f.lines (length s.nodes) (omega arith), total_within s m within)

copies_few : (s : SettledView) (b : BudgetView) (f : ForwardView) → IsSwept s b (length s.nodes) [] f
    → most_in (copies_of f) ≤ length f.graph.outputs
copies_few s b f is =
    let outputs = ap (λ (g : SumGraphView). length g.outputs) is.graph ∙ length-map s.outputs plain_output in
    let same : copies_of f ≡ copies_from (first_work f.graph) f.lines f.graph.inputs (map plain_output s.outputs) =
    ap (λ (g : SumGraphView). copies_from (first_work f.graph) f.lines f.graph.inputs g.outputs) is.graph in
    omega (arith, outputs, ap most_in same, most-copies (first_work f.graph) f.lines f.graph.inputs s.outputs)

copies_light : (s : SettledView) (b : BudgetView) (f : ForwardView) → IsSwept s b (length s.nodes) [] f
    → sum_by toggle_weight f.graph.outputs ≤ length f.graph.outputs
copies_light s b f is =
    let outputs = ap (λ (g : SumGraphView). length g.outputs) is.graph ∙ length-map s.outputs plain_output in
    let same = ap (λ (g : SumGraphView). sum_by toggle_weight g.outputs) is.graph in
    omega (arith, outputs, same, weight-copies-le s.outputs)

planned_within : (s : SettledView) (b : BudgetView) (f : ForwardView)
    → IsSwept s b (length s.nodes) [] f → IsWithinEager s (planned_of f)
planned_within s b f is = record {
  few_lines = λ m within.
      let first = ports_are s f is.graph in
      omega (arith, first, lines_enough s m f.most 0 within is.most is.few);
  few_gates = λ m within. omega (
    arith,
    most-finished f.gates (copies_of f),
    copies_few s b f is,
    gates_enough s b f m is within,
  );
}

pub finished_within : (s : SettledView) (b : BudgetView) (f : ForwardView) (p : PlannedView)
    → IsSwept s b (length s.nodes) [] f → p ≡ planned_of f → IsWithinEager s p
finished_within s b f p is e = subst (IsWithinEager s) (sym e) (planned_within s b f is)

pub finish_fault : (s : SettledView) (b : BudgetView) (f : ForwardView) (fault : PlanFault)
    → IsSwept s b (length s.nodes) [] f → IsFinishFault f fault → IsEagerFault s b fault
finish_fault s b f (Lines need) is fault = absurd fault
finish_fault s b f Gates is fault = record {
  few = λ m within. omega (
    arith,
    fault,
    ap (λ (x : BudgetView). x.gates) is.budget,
    light_forward f is.forward,
    copies_light s b f is,
    gates_enough s b f m is within,
  );
}
finish_fault s b f (Memory _) is fault = has_port_lines s b (length s.nodes) [] f is

-- ---- the outputs

-- gates that add some outputs add the same outputs
pub same_outputs : (start : Start) (roles : Roles) (gates : List GateView) (value other : List Bool → List Bool)
    → ((input : List Bool) → value input ≡ other input) → AddsOutputs start roles gates value → AddsOutputs start roles gates other
same_outputs start roles gates value other same clean = record {
  size = λ input size. sym (ap (λ (bits : List Bool). length bits) (same input)) ∙ clean.size input size;
  adds = λ input held borrowed size wide may long. record {
    mapped = (clean.adds input held borrowed size wide may long).mapped
        ∙ ap (λ (outputs : List Bool). input ++ (added held outputs ++ (replicate roles.work false ++ borrowed))) (same input);
  };
}

-- gates that add the outputs of the plain graph add those of the settled one
pub plain_clean : (s : SettledView) (roles : Roles) (gates : List GateView) → AddsOutputs Any roles gates (sum_outputs (plain_of s))
    → AddsOutputs Any roles gates (settled_outputs s)
plain_clean s roles gates = same_outputs Any roles gates (sum_outputs (plain_of s)) (settled_outputs s) (plain_graphs_are_alike s).outputs
