-- A finished plan: the gates, the copies, and the gates reversed.
use Rattle.std.proofs.Common.{◌≡◌, ℕ, ◌+◌, ◌-◌, ◌*◌, ◌<◌, ◌≤◌, Bool, false, List, [], ◌++◌, length, reverse, refl, sym, ap, ◌∙◌, subst}
use Rattle.std.proofs.Common.{arith, append-nil, sum_by, Result, Ok, Err}
use Rattle.std.specs.Result.{IfOk, IfErr}
use Rattle.std.specs.List.{AllByRecursion}
use Rattle.std.proofs.lemmas.List.{nil_from_length, length-map, length-replicate}
use Rattle.std.proofs.lemmas.List.Sums.{sum_by-append}
use Rattle.std.proofs.lemmas.Simd.{length-zip2}
use Rattle.std.specs.Bool.{xor}
use Rattle.list_facts.specs.Bits.{zeros}
use Rattle.list_facts.proofs.AllLemmas.{AllByRecursion-append, AllByRecursion-reverse}
use Rattle.held_nodes.specs.inside.Lines.{HeapView}
use Rattle.sum_graph.specs.Graphs.{sum_outputs, sum_on}
use Rattle.gate_split.specs.Costs.{IsRoomyFlip}
use Rattle.circuit_plans.specs.declared.plan.PlanFault.{PlanFault}
use Rattle.circuit_plans.specs.declared.plan.PlanFault.TheVariants.{Memory}
use Rattle.circuit_plans.specs.declared.plan.TheConstants.{MOST_LINES}
use Rattle.circuit_plans.specs.declared.roles.Start.TheVariants.{Any}
use Rattle.circuit_plans.specs.Plans.{AddsOutputs, PlannedView, added}
use Rattle.mct_circuit.specs.Gates.{AreGatesOn, line_map}
use Rattle.mct_circuit.specs.Sizes.{weight_of}
use Rattle.mct_circuit.proofs.ReversalLemmas.{conjugated}
use Rattle.mct_circuit.proofs.WeightLemmas.{length-le-weight, weight-reverse}
use Rattle.sum_toggles.specs.Toggles.{toggle_weight}
use Rattle.held_nodes.specs.Held.{ForwardView}
use Rattle.sum_graph.specs.Graphs.{first_work}
use Rattle.held_nodes.specs.Moves.{IsFinishFault, IsReadySum, copies_of, finished_gates, finished_weight, planned_of}
use Rattle.circuit_plans.specs.Plans.{roles_of_plan}
use Rattle.mct_circuit.specs.Sizes.{weight_in}
use Rattle.circuit_plans.specs.Plans.{HasPorts, IsInBudget}
use Rattle.held_nodes.specs.inside.Kept.{CanCopy, HasProducts, IsKept}
use Rattle.held_nodes.proofs.ContentLemmas.{all_lines, length-all_lines}
use Rattle.held_nodes.proofs.CopyLemmas.{AreReady, outputs_can, copies_roomy, weight-copies, copied}
use Rattle.held_nodes.proofs.ForwardLemmas.{roomy_on}

-- the forward part is kept, and its outputs are inputs or held
pub record IsDone (f : ForwardView) (w : ℕ) (heap : HeapView) : Type 0 where
  pub kept : IsKept f w heap
  pub ready : AllByRecursion (IsReadySum f.lines) f.graph.outputs

pub done_of : (f entry : ForwardView) (w : ℕ) (heap : HeapView) → f ≡ entry → IsKept f w heap → AllByRecursion (IsReadySum entry.lines) entry.graph.outputs
    → IsDone f w heap
done_of f entry w heap e kept ready = record {
  kept = kept;
  ready = subst (λ (g : ForwardView). AllByRecursion (IsReadySum g.lines) g.graph.outputs) (sym e) ready;
}

module _ (f : ForwardView) (w : ℕ) (heap : HeapView) (d : IsDone f w heap) where
  are_ready : AreReady f.graph f.lines f.most
  are_ready = record {
    known = d.kept.forward.sums.outputs;
    ready = d.ready;
    different = d.kept.forward.different;
    below = d.kept.forward.below;
    few = omega (arith, d.kept.forward.within, d.kept.few);
  }

  pub done_can : AllByRecursion (CanCopy (first_work f.graph) f.lines f.graph.inputs) f.graph.outputs
  done_can = outputs_can f.graph f.lines f.most are_ready

  pub done_gates : AreGatesOn (first_work f.graph + f.most) f.gates
  done_gates = roomy_on (first_work f.graph + f.most) f.gates d.kept.forward.roomy

  -- the code's test of the weight
  pub done_over : (gates weight : ℕ) → gates ≡ f.budget.gates → weight ≡ weight_in f.gates → gates - 2 * weight < sum_by toggle_weight f.graph.outputs
      → f.budget.gates < finished_weight f
  done_over gates weight e is over = let twice = d.kept.forward.weight in omega (arith, e, is, over, twice)

  pub done_within : (gates weight : ℕ) → gates ≡ f.budget.gates → weight ≡ weight_in f.gates → sum_by toggle_weight f.graph.outputs ≤ gates - 2 * weight
      → finished_weight f ≤ f.budget.gates
  done_within gates weight e is le = let twice = d.kept.forward.weight in omega (arith, e, is, le, twice)

  pub done_ports : HasPorts f.graph.inputs (length f.graph.outputs) (planned_of f)
  done_ports = record { inputs = refl; outputs = refl; lines = refl }

  pub done_few : first_work f.graph + f.most ≤ MOST_LINES
  done_few = omega (arith, d.kept.forward.within, d.kept.few)

module _ (f : ForwardView) (w : ℕ) (heap : HeapView) (d : IsDone f w heap) (are : AllByRecursion HasProducts f.graph.outputs) where
  done_copies_roomy : AllByRecursion (IsRoomyFlip (first_work f.graph + f.most)) (copies_of f)
  done_copies_roomy =
      copies_roomy f.graph.inputs (first_work f.graph) f.most (length f.graph.nodes) f.graph.inputs f.lines f.graph.outputs (omega arith) (omega arith)
      d.kept.forward.different d.kept.forward.below d.kept.forward.sums.outputs d.ready are

  pub done_copies : AreGatesOn (first_work f.graph + f.most) (copies_of f)
  done_copies = roomy_on (first_work f.graph + f.most) (copies_of f) done_copies_roomy

  pub done_roomy : AllByRecursion (IsRoomyFlip (first_work f.graph + f.most)) (finished_gates f)
  done_roomy =
      AllByRecursion-append (IsRoomyFlip (first_work f.graph + f.most)) (f.gates ++ copies_of f) (reverse f.gates)
      (AllByRecursion-append (IsRoomyFlip (first_work f.graph + f.most)) f.gates (copies_of f) d.kept.forward.roomy done_copies_roomy)
      (AllByRecursion-reverse (IsRoomyFlip (first_work f.graph + f.most)) f.gates d.kept.forward.roomy)

  outputs_many : (input : List Bool) → length (sum_outputs f.graph input) ≡ length f.graph.outputs
  outputs_many input = length-map f.graph.outputs (sum_on f.graph.nodes input)

  copies_weight : weight_in (copies_of f) ≡ sum_by toggle_weight f.graph.outputs
  copies_weight = weight-copies (first_work f.graph) f.lines f.graph.inputs f.graph.outputs are

  pub done_room : finished_weight f ≤ f.budget.gates → 2 * length f.gates + length (copies_of f) ≤ f.budget.gates
  done_room le =
      let few = length-le-weight f.gates in
      let some = length-le-weight (copies_of f) in
      omega (arith, le, few, some, copies_weight)

  maps : (input held : List Bool) → length input ≡ f.graph.inputs → length held ≡ length f.graph.outputs
      → line_map (finished_gates f) (all_lines input held (zeros f.most))
      ≡ all_lines input (added held (sum_outputs f.graph input)) (zeros f.most)
  maps input held size many =
      let was = d.kept.forward.holds.on input size in
      let outputs = added held (sum_outputs f.graph input) in
      let same : length held ≡ length (sum_outputs f.graph input) = many ∙ sym (outputs_many input) in
      let as_many : length outputs ≡ length f.graph.outputs = length-zip2 xor held (sum_outputs f.graph input) same ∙ many in
      let long : first_work f.graph + f.most ≡ length (all_lines input outputs (zeros f.most)) =
      (let all = length-all_lines input outputs (zeros f.most) in let some = length-replicate f.most false in omega (arith, all, some, as_many, size)) in
      conjugated f.gates (copies_of f) (all_lines input held (zeros f.most)) (all_lines input held was.content) (all_lines input outputs (zeros f.most))
      (all_lines input outputs was.content)
      (subst (λ (n : ℕ). AreGatesOn n f.gates) long (done_gates f w heap d))
      (was.is.mapped held many)
      (was.is.mapped outputs as_many)
      (copied f.graph f.lines f.most f.gates input held was.content size many was.is (are_ready f w heap d) are)

  pub done_clean : AddsOutputs Any (roles_of_plan (planned_of f)) (finished_gates f) (sum_outputs f.graph)
  done_clean = record {
    size = λ input size. outputs_many input;
    adds = λ input held borrowed size many may none.
        (let nothing : borrowed ≡ [] = nil_from_length borrowed none in
        let same : zeros f.most ++ borrowed ≡ zeros f.most = ap (λ (bits : List Bool). zeros f.most ++ bits) nothing ∙ append-nil (zeros f.most) in
        record {
          mapped =
              ap (λ (bits : List Bool). line_map (finished_gates f) (all_lines input held bits)) same
              ∙ maps input held size many
              ∙ ap (λ (bits : List Bool). all_lines input (added held (sum_outputs f.graph input)) bits) (sym same);
        });
  }

  -- the weight of the whole plan
  pub whole_weight : weight_in (finished_gates f) ≡ finished_weight f
  whole_weight =
      let first = sum_by-append weight_of (f.gates ++ copies_of f) (reverse f.gates) in
      let copies = sum_by-append weight_of f.gates (copies_of f) in
      let back = weight-reverse f.gates in
      omega (arith, first, copies, back, copies_weight)

  pub done_in_budget : finished_weight f ≤ f.budget.gates → IsInBudget f.budget (planned_of f)
  done_in_budget light = record {
    lines = omega (arith, d.kept.forward.within);
    gates = omega (arith, light, whole_weight);
  }

-- what is said of the plan, where there is one
pub of_plan : (r : Result PlannedView PlanFault) (p : PlannedView) (Q : PlannedView → Type 0) → IfOk r (λ planned. planned ≡ p) → Q p → IfOk r Q
of_plan (Ok x) p Q is q = subst Q (sym is) q
of_plan (Err e) p Q is q = tt

pub memory_refuses : (r : Result PlannedView PlanFault) (f : ForwardView) → finished_weight f ≤ f.budget.gates → IfErr r (λ fault. fault ≡ Memory _)
    → IfErr r (IsFinishFault f)
memory_refuses (Ok x) f light is = tt
memory_refuses (Err e) f light is = subst (IsFinishFault f) (sym is) light
