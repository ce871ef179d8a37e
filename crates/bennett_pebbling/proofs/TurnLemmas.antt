-- A node that turns, by a toggle.
use Rattle.std.proofs.Common.{◌≡◌, ℕ, ◌+◌, ◌*◌, ◌<◌, ◌≤◌, max, Bool, true, not, List, ◌++◌, length, set, Option, Some, None, is_some}
use Rattle.std.proofs.Common.{get_or, sym, ◌∙◌, ap, subst, refl, arith, inl, inr, sum_by}
use Rattle.std.proofs.lemmas.Bool.{cases_eq}
use Rattle.std.proofs.lemmas.List.{get_or-set_same, get_or-set_other, length-set}
use Rattle.std.proofs.lemmas.List.Sums.{sum_by-append}
use Rattle.std.proofs.lemmas.Option.{get_or_from_slice_get, slice_get_within}
use Rattle.std.specs.Prelude.{slice_get}
use Rattle.list_facts.proofs.AllLemmas.{AllByRecursion-at}
use Rattle.bit_sums.specs.Sums.{SumView}
use Rattle.sum_graph.specs.Graphs.{SumGraphView}
use Rattle.sum_toggles.specs.Toggles.{toggle_weight}
use Rattle.bennett_pebbling.specs.Pebbling.{IsLight}
use Rattle.circuit_plans.specs.declared.plan.PlanFault.{PlanFault}
use Rattle.circuit_plans.specs.declared.plan.PlanFault.TheVariants.{Lines, Gates, Memory}
use Rattle.mct_circuit.specs.Gates.{GateView}
use Rattle.mct_circuit.specs.Sizes.{weight_of}
use Rattle.held_nodes.specs.Held.{ForwardView, IsForward, held_count, held_line, is_held}
use Rattle.sum_graph.specs.Graphs.{first_work}
use Rattle.held_nodes.specs.Moves.{IsToggled, IsToggleFault, TakesLine, toggle_of}
use Rattle.mct_circuit.specs.Sizes.{weight_in}
use Rattle.held_nodes.proofs.NarrowLemmas.{narrow_toggles}
use Rattle.bennett_pebbling.specs.inside.Changes.{AllowsTurn, IsTurned, IsTurnFault}
use Rattle.bennett_pebbling.specs.inside.Costs.{IsMove, counted, price_if}
use Rattle.bennett_pebbling.proofs.CountLemmas.{counted-held, counted-most, counted-weaker, counted-below}
use Rattle.held_nodes.specs.Prices.{IsPrice, price_at}
use Rattle.held_nodes.proofs.PriceLemmas.{price_node}

after_turn : (lines : List (Option ℕ)) (own : Option ℕ) (line : ℕ) (after : Option ℕ) → TakesLine lines own line after
    → is_some after ≡ not (is_some own)
after_turn lines (Some old) line after t = ap is_some t.1
after_turn lines None line after t = ap is_some t.1

few_toggle : (s : SumGraphView) (k : ℕ) (node : SumView) → IsLight s → slice_get s.nodes k ≡ Some node → toggle_weight node ≤ 2
few_toggle s k node light is =
    let low = slice_get_within s.nodes k node is in
    let here = AllByRecursion-at (λ (n : SumView). toggle_weight n ≤ 2) s.nodes k node light.toggles low in
    let same : toggle_weight (get_or s.nodes k node) ≡ toggle_weight node = ap toggle_weight (get_or_from_slice_get s.nodes k node node is) in
    omega (arith, here, same)

-- what is held with one line changed is allowed
allowed_after : (f : ForwardView) (k : ℕ) (after : Option ℕ) (allowed : ℕ → Bool) → AllowsTurn f k true allowed
    → (j : ℕ) → is_held (set f.lines k after) j ≡ true → allowed j ≡ true
allowed_after f k after allowed allows j is =
    elim (cases_eq j k) as (λ _. allowed j ≡ true) [
      | inl e ↦ ap allowed e ∙ allows.turning refl
      | inr ne ↦ allows.held.held j (sym (ap is_some (get_or-set_other f.lines k j after None ne)) ∙ is)
    ]

few_held : (f : ForwardView) (k : ℕ) (after : Option ℕ) (allowed : ℕ → Bool) → IsForward f → AllowsTurn f k true allowed
    → held_count (set f.lines k after) ≤ counted allowed (length f.graph.nodes)
few_held f k after allowed forward allows =
    let lines = set f.lines k after in
    let long : length lines ≡ length f.graph.nodes = length-set f.lines k after ∙ forward.nodes in
    let all : held_count lines ≡ counted (is_held lines) (length f.graph.nodes) = counted-held lines ∙ ap (counted (is_held lines)) long in
    omega (arith, all, counted-weaker (is_held lines) allowed (length f.graph.nodes) (λ j _. allowed_after f k after allowed allows j))

module _ (f next : ForwardView) (k : ℕ) (t : IsToggled f k next) (forward : IsForward f) (low : k < length f.graph.nodes) where
  gates : List GateView
  gates = toggle_of (first_work f.graph) f.lines t.line t.node

  whole_weight : IsLight f.graph → weight_in (f.gates ++ toggle_of (first_work f.graph) f.lines t.line t.node) ≤ weight_in f.gates + 2 * 1
  whole_weight light =
      let sum = sum_by-append weight_of f.gates (toggle_of (first_work f.graph) f.lines t.line t.node) in
      omega (arith, sum, t.weighs, few_toggle f.graph k t.node light t.is)

  lines_after : next.lines ≡ set f.lines k t.after
  lines_after = ap (λ (g : ForwardView). g.lines) t.becomes

  here : is_held next.lines k ≡ not (is_held f.lines k)
  here =
      ap (λ (lines : List (Option ℕ)). is_held lines k) lines_after
      ∙ ap is_some (get_or-set_same f.lines k t.after None (subst (λ (n : ℕ). k < n) (sym forward.nodes) low))
      ∙ after_turn f.lines (held_line f.lines k) t.line t.after t.takes

  others : (j : ℕ) → ¬ (j ≡ k) → is_held next.lines j ≡ is_held f.lines j
  others j ne =
      ap (λ (lines : List (Option ℕ)). is_held lines j) lines_after ∙ ap is_some (get_or-set_other f.lines k j t.after None ne)

  move : (allowed : ℕ → Bool) → AllowsTurn f k true allowed → IsMove f (counted allowed (length f.graph.nodes)) 1 next
  move allowed allows = record {
    graph = ap (λ (g : ForwardView). g.graph) t.becomes;
    budget = ap (λ (g : ForwardView). g.budget) t.becomes;
    most =
        let e : next.most ≡ max f.most (held_count (set f.lines k t.after)) = ap (λ (g : ForwardView). g.most) t.becomes in
        omega (arith, e, few_held f k t.after allowed forward allows);
    few = λ held.
        let n = length f.graph.nodes in
        let e : next.most ≡ max f.most (held_count (set f.lines k t.after)) = ap (λ (g : ForwardView). g.most) t.becomes in
        let all = few_held f k t.after (λ j. true) forward (record { held = record { held = λ j is. refl }; turning = λ is. refl }) in
        omega (arith, e, all, counted-most (λ j. true) n, held);
    weight = λ light.
        let e = ap (λ (g : ForwardView). weight_in g.gates) t.becomes in
        omega (arith, e, whole_weight light);
    narrow = narrow_toggles.toggled f next k t;
  }

  paid : (measure : GateView → ℕ) (price : SumView → ℕ) → IsPrice measure price
      → sum_by measure next.gates ≤ sum_by measure f.gates + price_if true (price_at price f.graph k)
  paid measure price is = omega (arith, is.toggled f next k t, price_node price f.graph k t.node t.is)

  pub turned_over : IsTurned f k true next
  turned_over = record { here = here; others = others; move = move; paid = paid }

pub not_turned_over : (f : ForwardView) (k : ℕ) (e : PlanFault) → IsForward f → k < length f.graph.nodes → IsToggleFault f k e → IsTurnFault f k true e
not_turned_over f k (Lines need) forward low fault = record {
  turning = refl;
  toggle = fault;
  fault = λ allowed allows. record {
    need = (
      fault.1,
      let n = length f.graph.nodes in
          let all : held_count f.lines ≡ counted (is_held f.lines) n = counted-held f.lines ∙ ap (counted (is_held f.lines)) forward.nodes in
          let more : counted (is_held f.lines) n + 1 ≤ counted (λ j. true) n =
          counted-below (is_held f.lines) (λ j. true) n k low fault.0.free refl (λ j held. refl) in
          omega (arith, fault.0.full, all, more, counted-most (λ j. true) n),
    );
    short =
        let n = length f.graph.nodes in
        let all : held_count f.lines ≡ counted (is_held f.lines) n = counted-held f.lines ∙ ap (counted (is_held f.lines)) forward.nodes in
        let more : counted (is_held f.lines) n + 1 ≤ counted allowed n =
        counted-below (is_held f.lines) allowed n k low fault.0.free (allows.turning refl) allows.held.held in
        omega (arith, fault.0.full, all, more);
  };
  heavy = tt;
}
not_turned_over f k Gates forward low fault = record {
  turning = refl;
  toggle = fault;
  fault = λ allowed allows. record {
    need = tt;
    short = λ light. omega (arith, fault.1.heavy, few_toggle f.graph k fault.1.node light fault.1.is);
  };
  heavy = omega (arith, fault.1.heavy, price_node toggle_weight f.graph k fault.1.node fault.1.is);
}
not_turned_over f k (Memory _) forward low fault = record {
  turning = refl;
  toggle = fault;
  fault = λ allowed allows. record { need = tt; short = tt };
  heavy = tt;
}
