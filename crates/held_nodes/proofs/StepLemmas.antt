-- A toggle, step by step: a line is taken or given back, the gates are appended.
use Rattle.std.proofs.Common.{◌≡◌, ℕ, ◌+◌, ◌*◌, ◌/◌, ◌<◌, ◌≤◌, max, true, List, ◌++◌, length, get_or, set, Option, Some, None, is_some, slice_get, refl, IfSome}
use Rattle.std.proofs.Common.{sym, ap, ◌∙◌, subst, arith}
use Rattle.std.specs.List.{AllByRecursion}
use Rattle.std.proofs.lemmas.Bool.{false≢true}
use Rattle.std.proofs.lemmas.List.{get_or_default}
use Rattle.std.proofs.lemmas.Option.{same_Some, slice_get_within}
use Rattle.held_nodes.proofs.OutLineLemmas.{length-with_line}
use Rattle.held_nodes.specs.inside.Lines as heaps
use Rattle.held_nodes.specs.inside.Lines.{HeapView, IsLineHeap, contains, with_taken, without_line}
use Rattle.sum_graph.specs.Graphs.{SumGraphView}
use Rattle.bit_sums.specs.Sums.{SumView, bases_of}
use Rattle.circuit_plans.specs.declared.plan.PlanFault.{PlanFault}
use Rattle.circuit_plans.specs.declared.plan.PlanFault.TheVariants.{Lines, Gates, Memory}
use Rattle.circuit_plans.specs.declared.plan.TheConstants.{MOST_LINES}
use Rattle.gate_split.specs.Costs.{IsRoomyFlip}
use Rattle.mct_circuit.specs.Gates.{GateView}
use Rattle.held_nodes.specs.Held.{ForwardView, IsForward, IsLeastFree, held_line, held_count}
use Rattle.sum_graph.specs.Graphs.{first_work}
use Rattle.held_nodes.specs.Moves.{IsReadyBase, IsReadyNode, IsToggled, IsToggleFault, IsToggleTooHeavy, HasNoLine, toggle_of}
use Rattle.mct_circuit.specs.Sizes.{weight_in}
use Rattle.sum_toggles.specs.Toggles.{base_line, toggle_weight}
use Rattle.sum_toggles.proofs.SumLemmas.{weight_sum}
use Rattle.held_nodes.specs.Moves.{with_node}
use Rattle.held_nodes.specs.inside.Kept.{HasNoLineFor, HasProducts, IsKept, IsLineAfter, IsLineFor, IsWeightFault}
use Rattle.held_nodes.proofs.ForwardLemmas.{AddNode, forward_put, forward_given}
use Rattle.held_nodes.proofs.LineLemmas.{held_taken, held_within, least_free, out-taken, out-given, not_free, count-put, count-given}
use Rattle.held_nodes.proofs.PlaceLemmas.{CanToggleOn, known_at, toggle_adds, toggle_roomy}

-- ---- weights

pub over_half : (gates w weight : ℕ) → w ≡ gates / 2 → w < weight → gates < 2 * weight
over_half gates w weight e over = omega (arith, e, over)

pub within_half : (gates w weight : ℕ) → w ≡ gates / 2 → weight ≤ w → 2 * weight ≤ gates
within_half gates w weight e le = omega (arith, e, le)

-- ---- nodes

ready_operands : (graph : SumGraphView) (lines : List (Option ℕ)) (k : ℕ) (node : SumView) → IsReadyNode graph lines k → slice_get graph.nodes k ≡ Some node
    → AllByRecursion (IsReadyBase lines) (bases_of node)
ready_operands graph lines k node ready is =
    subst (λ (n : SumView). AllByRecursion (IsReadyBase lines) (bases_of n)) (same_Some ready.node node (sym ready.is ∙ is)) ready.ready

-- ---- a line is taken

pub record Takes (f : ForwardView) (w : ℕ) (old new : HeapView) (k line : ℕ) (node : SumView) : Type 0 where
  pub kept : IsKept f w old
  pub ready : IsReadyNode f.graph f.lines k
  pub node_is : slice_get f.graph.nodes k ≡ Some node
  pub none : held_line f.lines k ≡ None
  pub least : heaps.IsLeastFree old line
  pub taken : new ≡ with_taken old line
  pub peak : new.peak ≡ max old.peak (length new.out)

node_place : (f : ForwardView) (k : ℕ) (node : SumView) → IsForward f → slice_get f.graph.nodes k ≡ Some node → k < length f.lines
node_place f k node is at = omega (arith, is.nodes, slice_get_within f.graph.nodes k node at)

-- the forward part with a toggle on this line
abbrev pub toggle_on : ForwardView → ℕ → SumView → List GateView
toggle_on f line node = toggle_of (first_work f.graph) f.lines line node

-- gates that are too heavy for half the gates of the budget
too_heavy : (f : ForwardView) (w k : ℕ) (old : HeapView) (node : SumView) → IsKept f w old → slice_get f.graph.nodes k ≡ Some node
    → w < weight_in f.gates + toggle_weight node → IsToggleTooHeavy f k
too_heavy f w k old node kept is over =
    record { node = node; is = is; heavy = over_half f.budget.gates w (weight_in f.gates + toggle_weight node) kept.weights over }

-- gates that are light enough
not_heavy : (f : ForwardView) (w k : ℕ) (old : HeapView) (node : SumView) → IsKept f w old → slice_get f.graph.nodes k ≡ Some node
    → weight_in f.gates + toggle_weight node ≤ w → ¬ IsToggleTooHeavy f k
not_heavy f w k old node kept is light over =
    let same : toggle_weight over.node ≡ toggle_weight node = ap toggle_weight (same_Some over.node node (sym over.is ∙ is)) in
    let within = within_half f.budget.gates w (weight_in f.gates + toggle_weight node) kept.weights light in
    absurd (omega (arith, same, within, over.heavy))

module _ (f : ForwardView) (w : ℕ) (old new : HeapView) (k line : ℕ) (node : SumView) (t : Takes f w old new k line node) where
  taken_peak : new.peak ≡ max f.most (line + 1)
  taken_peak = let e : new.peak ≡ max old.peak (line + 1) = ap (λ (h : HeapView). h.peak) t.taken in omega (arith, e, t.kept.peak)

  taken_count : length new.out ≡ held_count f.lines + 1
  taken_count =
      let outs : length new.out ≡ length (with_taken old line).out = ap (λ (h : HeapView). length h.out) t.taken in
      omega (arith, outs, length-with_line old.out line, t.kept.out.count)

  pub taken_within : first_work f.graph + new.peak + f.budget.borrow ≤ f.budget.lines
  taken_within =
      let low = t.least.in_range in
      let peak = t.kept.out.is_heap.in_limit in
      let room = t.kept.forward.within in
      omega (arith, taken_peak, low, peak, room, t.kept.limit, t.kept.peak)

  pub taken_few : first_work f.graph + new.peak ≤ MOST_LINES
  taken_few = omega (arith, taken_within, t.kept.few)

  taken_least : IsLeastFree f.lines line
  taken_least = least_free f.lines old line t.kept.out t.least

  pub taken_can : CanToggleOn f.graph f.lines new.peak k line node
  taken_can = record {
    known = known_at f.graph.inputs k f.graph.nodes node t.kept.forward.sums.nodes t.node_is;
    ready = ready_operands f.graph f.lines k node t.ready t.node_is;
    different = t.kept.forward.different;
    below = λ j own is. omega (arith, t.kept.forward.below j own is, taken_peak);
    inside = omega (arith, taken_peak);
    apart = λ j own low is. not_free f.lines j own line is taken_least.free;
  }

  pub taken_room : HasNoLine f k → ⊥
  taken_room full =
      let low = t.least.in_range in
      let peak = t.kept.out.is_heap.in_limit in
      let le : new.peak ≤ old.limit = omega (arith, taken_peak, low, peak, t.kept.peak) in
      absurd (omega (arith, le, t.peak, taken_count, full.full, t.kept.limit))

  pub taken_fault : (fault : PlanFault) → IsWeightFault w (weight_in f.gates + toggle_weight node) fault → IsToggleFault f k fault
  taken_fault (Lines need) is = absurd is
  taken_fault Gates is = (taken_room, too_heavy f w k old node t.kept t.node_is is)
  taken_fault (Memory _) is = (taken_room, not_heavy f w k old node t.kept t.node_is is)

  pub taken_place : k < length f.lines
  taken_place = node_place f k node t.kept.forward t.node_is

  taken_most : new.peak ≡ max f.most (held_count (set f.lines k (Some line)))
  taken_most =
      let count = count-put f.lines k line taken_place t.none in
      omega (arith, t.peak, taken_count, count, t.kept.peak)

  pub taken_kept : HasProducts node → IsLineHeap new → weight_in (f.gates ++ toggle_on f line node) ≤ w
      → IsKept (record f { gates = f.gates ++ toggle_on f line node; lines = set f.lines k (Some line); most = new.peak }) w new
  taken_kept are is light = record {
    forward = forward_put f k line new.peak (toggle_on f line node) t.kept.forward taken_place t.none taken_least.free
        taken_can.inside taken_most (record {
          within = taken_within;
          weight = within_half f.budget.gates w (weight_in (f.gates ++ toggle_on f line node)) t.kept.weights light;
          roomy = toggle_roomy f.graph f.lines new.peak k line node taken_can are;
          adds = record {
            on = λ input content size is_content. toggle_adds f.graph f.lines new.peak k line node taken_can f.gates input content are
                t.kept.forward.sums.nodes t.node_is size is_content;
          };
        });
    out = out-taken f.lines old new k line t.kept.out is t.taken taken_place t.none;
    peak = refl;
    limit = ap (λ (h : HeapView). h.limit) t.taken ∙ t.kept.limit;
    weights = t.kept.weights;
    few = t.kept.few;
  }

  pub taken_toggled : HasProducts node
      → IsToggled f k (record f { gates = f.gates ++ toggle_on f line node; lines = set f.lines k (Some line); most = new.peak })
  taken_toggled are = record {
    node = node;
    is = t.node_is;
    line = line;
    after = Some line;
    takes = rw t.none (taken_least, refl);
    becomes = ap (λ (m : ℕ). record f { gates = f.gates ++ toggle_on f line node; lines = set f.lines k (Some line); most = m }) taken_most;
    weighs = weight_sum (base_line (first_work f.graph) f.lines) (first_work f.graph + line) node are;
  }

-- ---- a line is given back

pub record Gives (f : ForwardView) (w : ℕ) (old : HeapView) (k line : ℕ) : Type 0 where
  pub kept : IsKept f w old
  pub own : held_line f.lines k ≡ Some line

module _ (f : ForwardView) (w : ℕ) (old : HeapView) (k line : ℕ) (g : Gives f w old k line) where
  pub given_place : k < length f.lines
  given_place = held_within f.lines k line g.own

  pub given_inside : line < f.most
  given_inside = g.kept.forward.below k line g.own

  pub given_few : first_work f.graph + f.most ≤ MOST_LINES
  given_few = omega (arith, g.kept.forward.within, g.kept.few)

  pub given_target : first_work f.graph + line ≤ MOST_LINES
  given_target = omega (arith, given_few, given_inside)

  pub given_out : contains old.out line ≡ true
  given_out = g.kept.out.out line ∙ held_taken f.lines k line g.own

  pub given_can : (node : SumView) → IsReadyNode f.graph f.lines k → slice_get f.graph.nodes k ≡ Some node → CanToggleOn f.graph f.lines f.most k line node
  given_can node ready is = record {
    known = known_at f.graph.inputs k f.graph.nodes node g.kept.forward.sums.nodes is;
    ready = ready_operands f.graph f.lines k node ready is;
    different = g.kept.forward.different;
    below = g.kept.forward.below;
    inside = given_inside;
    apart = λ j own low at same.
        (let one : j ≡ k = g.kept.forward.different j k line (at ∙ ap (λ (n : ℕ). Some n) same) g.own in absurd (omega (arith, low, one)));
  }

  pub given_fault : (node : SumView) (fault : PlanFault) → slice_get f.graph.nodes k ≡ Some node
      → IsWeightFault w (weight_in f.gates + toggle_weight node) fault → IsToggleFault f k fault
  given_fault node (Lines need) at is = absurd is
  given_fault node Gates at is =
      ((λ full. false≢true (sym full.free ∙ ap (λ (x : Option ℕ). is_some x) g.own)), too_heavy f w k old node g.kept at is)
  given_fault node (Memory _) at is =
      ((λ full. false≢true (sym full.free ∙ ap (λ (x : Option ℕ). is_some x) g.own)), not_heavy f w k old node g.kept at is)

  pub given_adds : (node : SumView) → HasProducts node → IsReadyNode f.graph f.lines k → slice_get f.graph.nodes k ≡ Some node
      → AddNode f.graph f.lines f.most f.gates (toggle_on f line node) k line
  given_adds node are ready is = record {
    on = λ input content size is_content. toggle_adds f.graph f.lines f.most k line node (given_can node ready is) f.gates input content are
        g.kept.forward.sums.nodes is size is_content;
  }

  given_peak : (new : HeapView) → new ≡ record old { out = without_line old.out line } → new.peak ≡ f.most
  given_peak new e = ap (λ (h : HeapView). h.peak) e ∙ g.kept.peak

  given_most : (new : HeapView) → new ≡ record old { out = without_line old.out line } → new.peak ≡ max f.most (held_count (set f.lines k None))
  given_most new e =
      let less = count-given f.lines k line g.own in
      let le = g.kept.forward.count in
      omega (arith, given_peak new e, less, le)

  pub given_kept : (new : HeapView) (more : List GateView) → new ≡ record old { out = without_line old.out line } → IsLineHeap new
      → weight_in (f.gates ++ more) ≤ w → AllByRecursion (IsRoomyFlip (first_work f.graph + f.most)) more
      → AddNode f.graph f.lines f.most f.gates more k line
      → IsKept (record f { gates = f.gates ++ more; lines = set f.lines k None; most = new.peak }) w new
  given_kept new more e is light roomy adds = record {
    forward =
        (let same = forward_given f k line more g.kept.forward g.own (record {
          within = g.kept.forward.within;
          weight = within_half f.budget.gates w (weight_in (f.gates ++ more)) g.kept.weights light;
          roomy = roomy;
          adds = adds;
        }) in
        subst (λ (m : ℕ). IsForward (record f { gates = f.gates ++ more; lines = set f.lines k None; most = m })) (sym (given_peak new e)) same);
    out = out-given f.lines old new k line g.kept.out is e g.kept.forward.different g.own;
    peak = refl;
    limit = ap (λ (h : HeapView). h.limit) e ∙ g.kept.limit;
    weights = g.kept.weights;
    few = g.kept.few;
  }

  pub given_becomes : (new : HeapView) (more : List GateView) → new ≡ record old { out = without_line old.out line }
      → record f { gates = f.gates ++ more; lines = set f.lines k None; most = new.peak } ≡ with_node f k None more
  given_becomes new more e = ap (λ (m : ℕ). record f { gates = f.gates ++ more; lines = set f.lines k None; most = m }) (given_most new e)

  pub given_toggled : (new : HeapView) (node : SumView) → HasProducts node → new ≡ record old { out = without_line old.out line }
      → slice_get f.graph.nodes k ≡ Some node
      → IsToggled f k (record f { gates = f.gates ++ toggle_on f line node; lines = set f.lines k None; most = new.peak })
  given_toggled new node are e is = record {
    node = node;
    is = is;
    line = line;
    after = None;
    takes = rw g.own (refl, refl);
    becomes = given_becomes new (toggle_on f line node) e;
    weighs = weight_sum (base_line (first_work f.graph) f.lines) (first_work f.graph + line) node are;
  }

-- ---- a toggle of either kind

pub record Toggles (f : ForwardView) (w : ℕ) (old out : HeapView) (k line : ℕ) (own : Option ℕ) (node : SumView) : Type 0 where
  pub kept : IsKept f w old
  pub ready : IsReadyNode f.graph f.lines k
  pub node_is : slice_get f.graph.nodes k ≡ Some node
  pub own_is : held_line f.lines k ≡ own
  pub line_is : IsLineFor own old out line

pub toggles_of : (f entry : ForwardView) (w : ℕ) (old out : HeapView) (k line : ℕ) (own : Option ℕ) (node : SumView) → f ≡ entry → IsKept f w old
    → IsReadyNode entry.graph entry.lines k → slice_get f.graph.nodes k ≡ Some node → own ≡ get_or f.lines k own → IsLineFor own old out line
    → Toggles f w old out k line own node
toggles_of f entry w old out k line own node e kept ready is read line_is = record {
  kept = kept;
  ready = subst (λ (g : ForwardView). IsReadyNode g.graph g.lines k) (sym e) ready;
  node_is = is;
  own_is = get_or_default f.lines k None own (node_place f k node kept.forward is) ∙ sym read;
  line_is = line_is;
}

pub ready_node : (f entry : ForwardView) (k : ℕ) → f ≡ entry → IsReadyNode entry.graph entry.lines k → k < length f.graph.nodes
ready_node f entry k e ready =
    let here = subst (λ (g : ForwardView). IsReadyNode g.graph g.lines k) (sym e) ready in
    slice_get_within f.graph.nodes k here.node here.is

pub ready_place : (f entry : ForwardView) (w : ℕ) (old : HeapView) (k : ℕ) → f ≡ entry → IsKept f w old → IsReadyNode entry.graph entry.lines k
    → k < length f.lines
ready_place f entry w old k e kept ready = omega (arith, kept.forward.nodes, ready_node f entry k e ready)

-- no line is left
pub no_line : (f entry : ForwardView) (w : ℕ) (old : HeapView) (k : ℕ) (own : Option ℕ) → f ≡ entry → IsKept f w old
    → IsReadyNode entry.graph entry.lines k → own ≡ get_or f.lines k own → HasNoLineFor own old → HasNoLine f k
no_line f entry w old k own e kept ready read none = record {
  free =
      (let here = get_or_default f.lines k None own (ready_place f entry w old k e kept ready) ∙ sym read ∙ none.0 in
      ap (λ (x : Option ℕ). is_some x) here);
  full = sym kept.out.count ∙ none.1 ∙ kept.limit;
}

takes_line : (f : ForwardView) (w : ℕ) (old out : HeapView) (k line : ℕ) (node : SumView) → Toggles f w old out k line None node → Takes f w old out k line node
takes_line f w old out k line node t = record {
  kept = t.kept;
  ready = t.ready;
  node_is = t.node_is;
  none = t.own_is;
  least = t.line_is.0;
  taken = t.line_is.1;
  peak = t.line_is.2;
}

gives_line : (f : ForwardView) (w : ℕ) (old out : HeapView) (k line own : ℕ) (node : SumView) → Toggles f w old out k line (Some own) node
    → Gives f w old k line
gives_line f w old out k line own node t = record { kept = t.kept; own = t.own_is ∙ ap (λ (n : ℕ). Some n) (sym t.line_is.0) }

same_peak : (f : ForwardView) (w : ℕ) (old out : HeapView) (k line own : ℕ) (node : SumView) → Toggles f w old out k line (Some own) node → f.most ≡ out.peak
same_peak f w old out k line own node t = sym (ap (λ (h : HeapView). h.peak) t.line_is.1 ∙ t.kept.peak)

-- the line can be toggled, and is no more than the most lines
pub record HasLine (f : ForwardView) (work k line : ℕ) (node : SumView) : Type 0 where
  pub can : CanToggleOn f.graph f.lines work k line node
  pub few : first_work f.graph + work ≤ MOST_LINES

pub toggles_on : (f : ForwardView) (w : ℕ) (old out : HeapView) (k line : ℕ) (own : Option ℕ) (node : SumView) → Toggles f w old out k line own node
    → HasLine f out.peak k line node
toggles_on f w old out k line None node t =
    let takes = takes_line f w old out k line node t in
    record { can = taken_can f w old out k line node takes; few = taken_few f w old out k line node takes }
toggles_on f w old out k line (Some own) node t =
    let gives = gives_line f w old out k line own node t in
    subst (λ (m : ℕ). HasLine f m k line node) (same_peak f w old out k line own node t)
    (record { can = given_can f w old k line gives node t.ready t.node_is; few = given_few f w old k line gives })

pub toggle_place : (f : ForwardView) (w : ℕ) (old out : HeapView) (k line : ℕ) (own : Option ℕ) (node : SumView) → Toggles f w old out k line own node
    → k < length f.lines
toggle_place f w old out k line own node t = node_place f k node t.kept.forward t.node_is

pub toggle_target : (f : ForwardView) (work k line : ℕ) (node : SumView) → HasLine f work k line node → first_work f.graph + line ≤ MOST_LINES
toggle_target f work k line node has = omega (arith, has.few, has.can.inside)

pub toggle_fault : (f : ForwardView) (w : ℕ) (old out : HeapView) (k line : ℕ) (own : Option ℕ) (node : SumView) → Toggles f w old out k line own node
    → (fault : PlanFault) → IsWeightFault w (weight_in f.gates + toggle_weight node) fault → IsToggleFault f k fault
toggle_fault f w old out k line None node t fault is = taken_fault f w old out k line node (takes_line f w old out k line node t) fault is
toggle_fault f w old out k line (Some own) node t fault is =
    given_fault f w old k line (gives_line f w old out k line own node t) node fault t.node_is is

pub toggle_out : (f : ForwardView) (w : ℕ) (old out : HeapView) (k line : ℕ) (own : Option ℕ) (node : SumView) → Toggles f w old out k line own node
    → IfSome own (λ own. contains out.out own ≡ true)
toggle_out f w old out k line None node t = tt
toggle_out f w old out k line (Some own) node t =
    subst (λ (h : HeapView). contains h.out own ≡ true) (sym t.line_is.1) (t.kept.out.out own ∙ held_taken f.lines k own t.own_is)

-- the forward part once it is toggled
abbrev pub with_toggle : ForwardView → ℕ → SumView → ℕ → Option ℕ → HeapView → ForwardView
with_toggle f line node k after new = record f { gates = f.gates ++ toggle_on f line node; lines = set f.lines k after; most = new.peak }

pub record ToggleEnds (f : ForwardView) (w : ℕ) (new : HeapView) (k line : ℕ) (after : Option ℕ) (node : SumView) : Type 0 where
  pub kept : IsKept (with_toggle f line node k after new) w new
  pub toggled : IsToggled f k (with_toggle f line node k after new)

put_ends : (f : ForwardView) (w : ℕ) (old out new : HeapView) (k line : ℕ) (after : Option ℕ) (node : SumView) → HasProducts node
    → Takes f w old out k line node
    → IsLineAfter None line out new after → IsLineHeap new → weight_in (f.gates ++ toggle_on f line node) ≤ w → ToggleEnds f w new k line after node
put_ends f w old out new k line after node are t is heap light =
    let same : (out ≡ new) × (Some line ≡ after) = (sym is.0, sym is.1) in
    subst (λ (h : HeapView). ToggleEnds f w h k line after node) same.0
    (subst (λ (x : Option ℕ). ToggleEnds f w out k line x node) same.1 (record {
      kept = taken_kept f w old out k line node t are (subst IsLineHeap is.0 heap) light;
      toggled = taken_toggled f w old out k line node t are;
    }))

give_ends : (f : ForwardView) (w : ℕ) (old new : HeapView) (k line : ℕ) (after : Option ℕ) (node : SumView) → HasProducts node → Gives f w old k line
    → IsReadyNode f.graph f.lines k → slice_get f.graph.nodes k ≡ Some node → new ≡ record old { out = without_line old.out line } → after ≡ None
    → IsLineHeap new → weight_in (f.gates ++ toggle_on f line node) ≤ w → ToggleEnds f w new k line after node
give_ends f w old new k line after node are g ready at e is heap light =
    subst (λ (x : Option ℕ). ToggleEnds f w new k line x node) (sym is) (record {
      kept = given_kept f w old k line g new (toggle_on f line node) e heap light
          (toggle_roomy f.graph f.lines f.most k line node (given_can f w old k line g node ready at) are) (given_adds f w old k line g node are ready at);
      toggled = given_toggled f w old k line g new node are e at;
    })

pub toggle_ends : (f : ForwardView) (w : ℕ) (old out new : HeapView) (k line : ℕ) (own after : Option ℕ) (node : SumView) → HasProducts node
    → Toggles f w old out k line own node → IsLineAfter own line out new after → IsLineHeap new → weight_in (f.gates ++ toggle_on f line node) ≤ w
    → ToggleEnds f w new k line after node
toggle_ends f w old out new k line None after node are t is heap light =
    put_ends f w old out new k line after node are (takes_line f w old out k line node t) is heap light
toggle_ends f w old out new k line (Some own) after node are t is heap light =
    let back : new ≡ record old { out = without_line old.out line } =
    is.0 ∙ ap (λ (h : HeapView). record h { out = without_line h.out own }) t.line_is.1
    ∙ ap (λ (n : ℕ). record old { out = without_line old.out n }) (sym t.line_is.0) in
    give_ends f w old new k line after node are (gives_line f w old out k line own node t) t.ready t.node_is back is.1 heap light
