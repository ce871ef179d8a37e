-- Each node toggled once, in their order.
use Rattle.std.proofs.Common.{◌≡◌, ℕ, zero, suc, ◌+◌, ◌*◌, ◌<◌, ◌≤◌, true, List, [], ◌∷◌, ◌++◌, length, take, set, slice_get}
use Rattle.std.proofs.Common.{replicate, reverse, Option, Some, None, is_some, unwrap_or, sum_by, refl, sym, ap, subst, ◌∙◌, inl, inr, arith}
use Rattle.std.proofs.lemmas.Bool.{both_ways, cases_eq, cases_lt, ltb-true}
use Rattle.std.proofs.lemmas.List.{append-nil, append_assoc, get_or-set_other, get_or-set_same, length-take-le, take_more}
use Rattle.std.proofs.lemmas.List.Sums.{sum_by-append, sum_by-take-le}
use Rattle.std.proofs.lemmas.Option.{get_or_from_slice_get, none-some, same_Some}
use Rattle.std.proofs.Math.Seq.{take-length}
use Rattle.std.specs.List.{AllByRecursion}
use Rattle.std.specs.Prelude.{IfOk, Ok, Err, Result}
use Rattle.list_facts.proofs.AllLemmas.{AllByRecursion-weaker}
use Rattle.dependency_graph.specs.declared.node.Base.{Base}
use Rattle.dependency_graph.specs.declared.node.Base.TheVariants as bases
use Rattle.dependency_graph.specs.Graphs.{IsKnownBase}
use Rattle.bit_sums.specs.Sums.{SumView, bases_of}
use Rattle.circuit_plans.specs.declared.plan.PlanFault.{PlanFault}
use Rattle.circuit_plans.specs.declared.plan.PlanFault.TheVariants.{Lines, Gates, Memory}
use Rattle.circuit_plans.specs.declared.roles.Start.TheVariants.{Any}
use Rattle.circuit_plans.specs.Plans.{AddsOutputs, BudgetView, HasPorts, IsInBudget, IsNarrowPlan, PlannedView, roles_of_plan}
use Rattle.mct_circuit.specs.Gates.{AreNarrow, GateView}
use Rattle.mct_circuit.specs.Sizes.{weight_in, weight_of}
use Rattle.sum_graph.specs.Graphs.{IsKnownSum, IsSumGraph, SumGraphView, first_work, is_known, sum_outputs}
use Rattle.sum_toggles.specs.Toggles.{base_line, sum_gates, toggle_weight}
use Rattle.held_nodes.specs.Held.{ForwardView, IsForward, held_count, held_line, is_taken, work_lines}
use Rattle.held_nodes.specs.Moves.{IsReadyBase, IsReadyNode, IsReadySum, IsToggled, IsToggleFault, TakesLine}
use Rattle.held_nodes.specs.Moves.{copies_from, nothing_held, planned_of, toggle_of}
use Rattle.held_nodes.proofs.LineLemmas.{count-put, held_taken, taken_held}
use Rattle.held_nodes.proofs.NarrowLemmas.{narrow_plan, narrow_toggles}
use Rattle.held_nodes.proofs.PlaceLemmas.{known_at, known_bases}
use Rattle.copied_plans.specs.inside.Straight.{IsStraightPlan, StraightFits, line_at, straight_gates, sums_in_order}
use Rattle.copied_plans.proofs.LineLemmas.{sum_same}

-- ---- gates in order

one_more : (line : Base → ℕ) (target : ℕ) (sums : List SumView) (s : SumView)
    → sums_in_order line target (sums ++ s ∷ []) ≡ sums_in_order line target sums ++ sum_gates line (target + length sums) s
one_more line target [] s =
    append-nil (sum_gates line target s) ∙ ap (λ (t : ℕ). sum_gates line t s) (omega arith)
one_more line target (x ∷ xs) s =
    let at : target + 1 + length xs ≡ target + length (x ∷ xs) = omega arith in
    ap (λ (rest : List GateView). sum_gates line target x ++ rest)
    (one_more line (target + 1) xs s ∙ ap (λ (t : ℕ). sums_in_order line (target + 1) xs ++ sum_gates line t s) at)
    ∙ sym (append_assoc (sum_gates line target x) (sums_in_order line (target + 1) xs) (sum_gates line (target + length (x ∷ xs)) s))

-- ---- the first k nodes are held

-- the first k nodes, each on the line of its number
pub record IsHeldTo (s : SumGraphView) (b : BudgetView) (k : ℕ) (f : ForwardView) : Type 0 where
  pub keeps : IsForward f
  pub graph : f.graph ≡ s
  pub budget : f.budget ≡ b
  pub held : (j : ℕ) → j < k → held_line f.lines j ≡ Some j
  pub free : (j : ℕ) → k ≤ j → held_line f.lines j ≡ None
  pub count : held_count f.lines ≡ k
  pub gates : f.gates ≡ sums_in_order (line_at (first_work s)) (first_work s) (take k s.nodes)
  pub narrow : AreNarrow f.gates
  pub weight : weight_in f.gates ≤ sum_by toggle_weight (take k s.nodes)

no_line : (n j : ℕ) → held_line (replicate n None) j ≡ None
no_line zero j = refl
no_line (suc n) zero = refl
no_line (suc n) (suc j) = no_line n j

none_held : (n : ℕ) → held_count (replicate n None) ≡ 0
none_held zero = refl
none_held (suc n) = none_held n

pub held_none : (s : SumGraphView) (b : BudgetView) (f : ForwardView) → f ≡ nothing_held s b (replicate (length s.nodes) None) → IsForward f
    → IsHeldTo s b 0 f
held_none s b f is keeps =
    let lines : f.lines ≡ replicate (length s.nodes) None = ap (λ (x : ForwardView). x.lines) is in
    let gates : f.gates ≡ [] = ap (λ (x : ForwardView). x.gates) is in
    record {
      keeps = keeps;
      graph = ap (λ (x : ForwardView). x.graph) is;
      budget = ap (λ (x : ForwardView). x.budget) is;
      held = λ j low. absurd (omega (arith, low));
      free = λ j low. ap (λ (ls : List (Option ℕ)). held_line ls j) lines ∙ no_line (length s.nodes) j;
      count = ap held_count lines ∙ none_held (length s.nodes);
      gates = gates;
      narrow = subst AreNarrow (sym gates) tt;
      weight = subst (λ (gs : List GateView). weight_in gs ≤ 0) (sym gates) (omega arith);
    }

-- ---- ready

ready_base : (n k : ℕ) (lines : List (Option ℕ)) → ((j : ℕ) → j < k → held_line lines j ≡ Some j) → (b : Base) → IsKnownBase n k b → IsReadyBase lines b
ready_base n k lines held (bases.Input i) known = tt
ready_base n k lines held (bases.Node j) known = ap is_some (held j known)

ready_bases : (n k : ℕ) (lines : List (Option ℕ)) → ((j : ℕ) → j < k → held_line lines j ≡ Some j) → (sum : SumView) → IsKnownSum n k sum
    → AllByRecursion (IsReadyBase lines) (bases_of sum)
ready_bases n k lines held sum known =
    AllByRecursion-weaker (IsKnownBase n k) (IsReadyBase lines) (ready_base n k lines held) (bases_of sum) (known_bases n k sum known)

node_at : (nodes : List SumView) (k : ℕ) → k < length nodes → (node : SumView) × (slice_get nodes k ≡ Some node)
node_at [] k low = absurd (omega (arith, low))
node_at (x ∷ xs) zero low = (x, refl)
node_at (x ∷ xs) (suc k) low = node_at xs k (omega (arith, low))

pub can_toggle : (s : SumGraphView) (b : BudgetView) (k : ℕ) (f : ForwardView) → IsHeldTo s b k f → k < length s.nodes → IsReadyNode f.graph f.lines k
can_toggle s b k f h low =
    let found = node_at s.nodes k low in
    let sums : IsSumGraph s = subst IsSumGraph h.graph h.keeps.sums in
    let ready : IsReadyNode s f.lines k = record {
      node = found.0;
      is = found.1;
      ready = ready_bases s.inputs k f.lines h.held found.0 (known_at s.inputs k s.nodes found.0 sums.nodes found.1);
    } in
    subst (λ (g : SumGraphView). IsReadyNode g f.lines k) (sym h.graph) ready

pub can_finish : (s : SumGraphView) (b : BudgetView) (f : ForwardView) → IsHeldTo s b (length s.nodes) f
    → AllByRecursion (IsReadySum f.lines) f.graph.outputs
can_finish s b f h =
    let sums : IsSumGraph s = subst IsSumGraph h.graph h.keeps.sums in
    subst (λ (g : SumGraphView). AllByRecursion (IsReadySum f.lines) g.outputs) (sym h.graph)
    (AllByRecursion-weaker (IsKnownSum s.inputs (length s.nodes)) (IsReadySum f.lines) (ready_bases s.inputs (length s.nodes) f.lines h.held) s.outputs
    sums.outputs)

-- ---- the least free line

module _ (s : SumGraphView) (b : BudgetView) (k : ℕ) (f : ForwardView) (h : IsHeldTo s b k f) where
  -- no line from k on is taken
  untaken : (line : ℕ) → k ≤ line → is_taken f.lines line ≡ true → ⊥
  untaken line high taken =
      let holder = taken_held f.lines line taken in
      elim (cases_lt holder.node k) [
        | inl low ↦
            (let same : holder.node ≡ line = same_Some holder.node line (sym (h.held holder.node low) ∙ holder.is) in omega (arith, same, low, high))
        | inr other ↦ none-some line (sym (h.free holder.node other) ∙ holder.is)
      ]

  taken_line : (line : ℕ) (after : Option ℕ) → TakesLine f.lines (held_line f.lines k) line after → (line ≡ k) × (after ≡ Some line)
  taken_line line after takes =
      let is : TakesLine f.lines None line after = subst (λ (own : Option ℕ). TakesLine f.lines own line after) (h.free k (omega arith)) takes in
      let least = is.0 in
      let here : line ≡ k = elim (cases_lt line k) as (λ _. line ≡ k) [
        | inl low ↦ absurd (both_ways (is_taken f.lines line) least.free (held_taken f.lines line line (h.held line low)))
        | inr high ↦ elim (cases_eq line k) as (λ _. line ≡ k) [
          | inl same ↦ same
          | inr other ↦ absurd (untaken k (omega arith) (least.least k (omega (arith, high, other))))
        ]
      ] in
      (here, is.1)

  -- ---- the gates of a toggle

  agree : (base : Base) → is_known s.inputs k base ≡ true → base_line (first_work s) f.lines base ≡ line_at (first_work s) base
  agree (bases.Input i) known = refl
  agree (bases.Node j) known = ap (λ (x : Option ℕ). first_work s + unwrap_or x 0) (h.held j (ltb-true j k known))

  same_gates : (sum : SumView) → IsKnownSum s.inputs k sum
      → toggle_of (first_work s) f.lines k sum ≡ sum_gates (line_at (first_work s)) (first_work s + k) sum
  same_gates sum known =
      sum_same (base_line (first_work s) f.lines) (line_at (first_work s)) (is_known s.inputs k) agree refl (first_work s + k) sum known

  -- ---- one node more

  module _ (next : ForwardView) (keeps : IsForward next) (low : k < length s.nodes) (t : IsToggled f k next) where
    is_node : slice_get s.nodes k ≡ Some t.node
    is_node = subst (λ (g : SumGraphView). slice_get g.nodes k ≡ Some t.node) h.graph t.is

    longer : take (k + 1) s.nodes ≡ take k s.nodes ++ t.node ∷ []
    longer =
        take_more s.nodes k t.node low
        ∙ ap (λ (x : SumView). take k s.nodes ++ x ∷ []) (get_or_from_slice_get s.nodes k t.node t.node is_node)

    line : (t.line ≡ k) × (t.after ≡ Some t.line)
    line = taken_line t.line t.after t.takes

    place : k < length f.lines
    place = let same : length f.graph.nodes ≡ length s.nodes = ap (λ (g : SumGraphView). length g.nodes) h.graph in omega (arith, h.keeps.nodes, same, low)

    new_lines : next.lines ≡ set f.lines k (Some k)
    new_lines = ap (λ (x : ForwardView). x.lines) t.becomes ∙ ap (λ (x : Option ℕ). set f.lines k x) (line.1 ∙ ap (λ (l : ℕ). Some l) line.0)

    toggled : List GateView
    toggled = toggle_of (first_work f.graph) f.lines t.line t.node

    toggled_is : toggled ≡ sum_gates (line_at (first_work s)) (first_work s + k) t.node
    unfolding toggled
    toggled_is =
        ap (λ (g : SumGraphView). toggle_of (first_work g) f.lines t.line t.node) h.graph
        ∙ ap (λ (l : ℕ). toggle_of (first_work s) f.lines l t.node) line.0
        ∙ same_gates t.node (known_at s.inputs k s.nodes t.node (subst IsSumGraph h.graph h.keeps.sums).nodes is_node)

    new_gates : next.gates ≡ f.gates ++ toggled
    unfolding toggled
    new_gates = ap (λ (x : ForwardView). x.gates) t.becomes

    long : length (take k s.nodes) ≡ k
    long = length-take-le k s.nodes (omega (arith, low))

    weighs : weight_in toggled ≡ toggle_weight t.node
    unfolding toggled
    weighs = t.weighs

    pub held_more : IsHeldTo s b (k + 1) next
    held_more = record {
      keeps = keeps;
      graph = ap (λ (x : ForwardView). x.graph) t.becomes ∙ h.graph;
      budget = ap (λ (x : ForwardView). x.budget) t.becomes ∙ h.budget;
      held = λ j less. ap (λ (ls : List (Option ℕ)). held_line ls j) new_lines ∙ elim (cases_eq j k) as (λ _. held_line (set f.lines k (Some k)) j ≡ Some j) [
        | inl same ↦ subst (λ (i : ℕ). held_line (set f.lines k (Some k)) i ≡ Some i) (sym same) (get_or-set_same f.lines k (Some k) None place)
        | inr other ↦ get_or-set_other f.lines k j (Some k) None other ∙ h.held j (omega (arith, less, other))
      ];
      free = λ j more.
          ap (λ (ls : List (Option ℕ)). held_line ls j) new_lines
          ∙ get_or-set_other f.lines k j (Some k) None (λ same. omega (arith, same, more)) ∙ h.free j (omega (arith, more));
      count = ap held_count new_lines ∙ count-put f.lines k k place (h.free k (omega arith)) ∙ ap (λ (n : ℕ). n + 1) h.count;
      gates = new_gates ∙ ap (λ (gs : List GateView). gs ++ toggled) h.gates
          ∙ ap (λ (gs : List GateView). sums_in_order (line_at (first_work s)) (first_work s) (take k s.nodes) ++ gs) (toggled_is
          ∙ ap (λ (n : ℕ). sum_gates (line_at (first_work s)) (first_work s + n) t.node) (sym long))
          ∙ sym (one_more (line_at (first_work s)) (first_work s) (take k s.nodes) t.node)
          ∙ ap (λ (sums : List SumView). sums_in_order (line_at (first_work s)) (first_work s) sums) (sym longer);
      narrow = narrow_toggles.toggled f next k t h.narrow;
      weight = let all = sum_by-append weight_of f.gates toggled in
          let same : weight_in next.gates ≡ weight_in (f.gates ++ toggled) = ap weight_in new_gates in
          let sums = sum_by-append toggle_weight (take k s.nodes) (t.node ∷ []) in
          let more : sum_by toggle_weight (take (k + 1) s.nodes) ≡ sum_by toggle_weight (take k s.nodes ++ t.node ∷ []) = ap (sum_by toggle_weight) longer in
          omega (arith, h.weight, all, same, sums, more, weighs);
    }

  -- ---- no toggle is refused

  pub toggle_fault : (fault : PlanFault) → k < length s.nodes → StraightFits s b → IsToggleFault f k fault → fault ≡ Memory _
  toggle_fault (Lines need) low fits is =
      let full = is.0.full in
      let same : work_lines f.graph f.budget ≡ work_lines s b =
      ap (λ (g : SumGraphView). work_lines g f.budget) h.graph ∙ ap (λ (x : BudgetView). work_lines s x) h.budget in
      absurd (omega (arith, full, same, h.count, low, fits.lines))
  toggle_fault Gates low fits is =
      let heavy = is.1 in
      let at : slice_get s.nodes k ≡ Some heavy.node = subst (λ (g : SumGraphView). slice_get g.nodes k ≡ Some heavy.node) h.graph heavy.is in
      let longer : take (k + 1) s.nodes ≡ take k s.nodes ++ heavy.node ∷ [] =
      take_more s.nodes k heavy.node low
      ∙ ap (λ (x : SumView). take k s.nodes ++ x ∷ []) (get_or_from_slice_get s.nodes k heavy.node heavy.node at) in
      let sums = sum_by-append toggle_weight (take k s.nodes) (heavy.node ∷ []) in
      let more : sum_by toggle_weight (take (k + 1) s.nodes) ≡ sum_by toggle_weight (take k s.nodes ++ heavy.node ∷ []) = ap (sum_by toggle_weight) longer in
      let most = sum_by-take-le toggle_weight s.nodes (k + 1) in
      let over : b.gates < 2 * (weight_in f.gates + toggle_weight heavy.node) =
      subst (λ (x : BudgetView). x.gates < 2 * (weight_in f.gates + toggle_weight heavy.node)) h.budget heavy.heavy in
      absurd (omega (arith, over, h.weight, sums, more, most, fits.gates))
  toggle_fault (Memory m) low fits is = refl

-- ---- the end

module _ (s : SumGraphView) (b : BudgetView) (f : ForwardView) (h : IsHeldTo s b (length s.nodes) f) where
  all_gates : f.gates ≡ straight_gates s
  all_gates = h.gates ∙ ap (λ (sums : List SumView). sums_in_order (line_at (first_work s)) (first_work s) sums) (take-length s.nodes)

  finished : (r : Result PlannedView PlanFault) → IfOk r (λ p. p ≡ planned_of f)
      → IfOk r (IsNarrowPlan Any s.inputs (length s.outputs) (sum_outputs s) b) → IfOk r (IsStraightPlan s b)
  finished (Ok p) is plan = record {
    plan = plan;
    lines = f.lines;
    gates = ap (λ (q : PlannedView). q.circuit.gates) is
        ∙ ap (λ (g : SumGraphView). f.gates ++ copies_from (first_work g) f.lines g.inputs g.outputs ++ reverse f.gates) h.graph
        ∙ ap (λ (gs : List GateView). gs ++ copies_from (first_work s) f.lines s.inputs s.outputs ++ reverse gs) all_gates;
  }
  finished (Err fault) is plan = tt

  pub done : (r : Result PlannedView PlanFault) → IfOk r (λ p. p ≡ planned_of f) → IfOk r (HasPorts f.graph.inputs (length f.graph.outputs))
      → IfOk r (λ p. AddsOutputs Any (roles_of_plan p) p.circuit.gates (sum_outputs f.graph)) → IfOk r (IsInBudget f.budget)
      → IfOk r (IsStraightPlan s b)
  done r is ports clean within =
      finished r is (narrow_plan s b f r is (narrow_toggles.finished f h.narrow)
      (subst (λ (g : SumGraphView). IfOk r (HasPorts g.inputs (length g.outputs))) h.graph ports)
      (subst (λ (g : SumGraphView). IfOk r (λ p. AddsOutputs Any (roles_of_plan p) p.circuit.gates (sum_outputs g))) h.graph clean)
      (subst (λ (x : BudgetView). IfOk r (IsInBudget x)) h.budget within))
