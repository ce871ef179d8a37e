-- The rising pass over a block.
use Rattle.std.proofs.Common.{◌≡◌, ◌≢◌, ℕ, suc, ◌+◌, ◌<◌, ◌≤◌, Bool, true, not, ◌&&◌, ◌||◌, inl, inr, List, length, sum_by}
use Rattle.std.proofs.Common.{sym, ◌∙◌, ap, subst, refl, arith}
use Rattle.std.proofs.lemmas.Bool.{cases_eq}
use Rattle.list_facts.specs.Bits.{bit_of}
use Rattle.bit_sums.specs.Sums.{SumView}
use Rattle.sum_graph.specs.Graphs.{SumGraphView}
use Rattle.sum_toggles.specs.Toggles.{toggle_weight}
use Rattle.mct_circuit.specs.Gates.{GateView}
use Rattle.mct_circuit.specs.Sizes.{weight_of}
use Rattle.circuit_plans.specs.declared.plan.PlanFault.{PlanFault}
use Rattle.held_nodes.specs.Held.{ForwardView, IsForward, is_held}
use Rattle.bennett_pebbling.specs.inside.Changes.{AllowsTurn, CanTurn, IsRaised, IsRaiseFault, IsReadyBelow, IsTurned, IsTurnFault, is_missing, turned}
use Rattle.bennett_pebbling.specs.inside.Costs.{Allows, IsMove, IsMoveFault, counted, one_if, price_if}
use Rattle.bennett_pebbling.specs.inside.Marks.{AreClosed, IsOutside, RestsOn}
use Rattle.bennett_pebbling.proofs.CountLemmas.{counted-longer}
use Rattle.bennett_pebbling.proofs.MoveLemmas.{move-then, fault-then, fault-weaker, heavy-then, heavy-weaker, price_if-most}
use Rattle.bennett_pebbling.proofs.NeedLemmas.{rests_below}
use Rattle.held_nodes.specs.Prices.{IsPrice, price_at, prices}
use Rattle.held_nodes.proofs.PriceLemmas.{prices-longer, weight_price}
use Rattle.bennett_pebbling.proofs.ReachLemmas.{everything}
use Rattle.bennett_pebbling.proofs.ReadyLemmas.{and_left, in_or_out, is_ready, move-graph, or_true, or_right_true, raised_bit}

-- the marked nodes before place k are held, too
pub record IsRaising (f : ForwardView) (lo : ℕ) (marks : List Bool) (k : ℕ) (now : ForwardView) : Type 0 where
  pub keeps : IsForward now
  pub graph : now.graph ≡ f.graph
  pub inside : (i : ℕ) → i < k → is_held now.lines (lo + i) ≡ (is_held f.lines (lo + i) || bit_of marks i)
  pub outside : (j : ℕ) → IsOutside lo k j → is_held now.lines j ≡ is_held f.lines j
  pub move : (allowed : ℕ → Bool) → Allows f lo marks allowed
      → IsMove f (counted allowed (length f.graph.nodes)) (counted (is_missing f lo marks) k) now
  pub paid : (measure : GateView → ℕ) (price : SumView → ℕ) → IsPrice measure price
      → sum_by measure now.gates ≤ sum_by measure f.gates + prices price f.graph lo k

pub raising_done : (f : ForwardView) (lo : ℕ) (marks : List Bool) (now : ForwardView) → IsRaising f lo marks (length marks) now
    → IsRaised f lo marks now
raising_done f lo marks now r = record { inside = r.inside; outside = r.outside; move = r.move; paid = r.paid }

module _ (f : ForwardView) (lo : ℕ) (marks : List Bool) (k : ℕ) (now : ForwardView) (r : IsRaising f lo marks k now) (low : k < length marks)
    (turn : Bool) (e : turn ≡ (bit_of marks k && not (is_held now.lines (lo + k)))) where
  same_held : is_held now.lines (lo + k) ≡ is_held f.lines (lo + k)
  same_held = r.outside (lo + k) (inr (omega arith))

  is_turn : turn ≡ is_missing f lo marks k
  is_turn = e ∙ ap (λ (b : Bool). bit_of marks k && not b) same_held

  mark_here : turn ≡ true → bit_of marks k ≡ true
  mark_here t = and_left (bit_of marks k) (not (is_held now.lines (lo + k))) (sym e ∙ t)

  -- ---- ready

  operand_held : IsReadyBelow f lo (length marks) → AreClosed f.graph lo marks → turn ≡ true → (j : ℕ) → RestsOn now.graph (lo + k) j
      → is_held now.lines j ≡ true
  operand_held ready closed t j rests =
      let below = rests_below now.graph (lo + k) j r.keeps.sums rests in
      let rests_f : RestsOn f.graph (lo + k) j = subst (λ (s : SumGraphView). RestsOn s (lo + k) j) r.graph rests in
      elim (in_or_out lo k j) as (λ _. is_held now.lines j ≡ true) [
        | inl p ↦
            let marked : bit_of marks p.place ≡ true =
            closed.closed k p.place (mark_here t) (omega (arith, p.low, low)) (subst (RestsOn f.graph (lo + k)) p.is rests_f) in
            ap (is_held now.lines) p.is ∙ r.inside p.place p.low ∙ or_right_true (is_held f.lines (lo + p.place)) (bit_of marks p.place) marked
        | inr out ↦
            let under : j < lo = elim out [ inl l ↦ l | inr high ↦ absurd (omega (arith, high, below)) ] in
            r.outside j out ∙ ready.ready (lo + k) j (omega arith) (omega (arith, low)) under rests_f
      ]

  pub raising_can : IsReadyBelow f lo (length marks) → AreClosed f.graph lo marks → lo + k < length now.graph.nodes → CanTurn now (lo + k) turn
  raising_can ready closed inside = record {
    ready = λ t. is_ready now.graph now.lines (lo + k) inside (operand_held ready closed t);
  }

  -- ---- a turn

  allows_turn : (allowed : ℕ → Bool) → Allows f lo marks allowed → AllowsTurn now (lo + k) turn allowed
  allows_turn allowed a = record {
    held = record {
      held = λ j is. elim (in_or_out lo k j) as (λ _. allowed j ≡ true) [
        | inl p ↦
            let both = sym (r.inside p.place p.low) ∙ ap (is_held now.lines) (sym p.is) ∙ is in
            ap allowed p.is ∙ elim (or_true (is_held f.lines (lo + p.place)) (bit_of marks p.place) both) [
              | inl was ↦ a.held.held (lo + p.place) was
              | inr marked ↦ a.marked p.place marked
            ]
        | inr out ↦ a.held.held j (sym (r.outside j out) ∙ is)
      ];
    };
    turning = λ t. a.marked k (mark_here t);
  }

  turn_most : (price : SumView → ℕ) → price_if turn (price_at price now.graph (lo + k)) ≤ price_at price f.graph (lo + k)
  turn_most price =
      let same : price_at price now.graph (lo + k) ≡ price_at price f.graph (lo + k) = ap (λ (s : SumGraphView). price_at price s (lo + k)) r.graph in
      omega (arith, same, price_if-most turn (price_at price now.graph (lo + k)))

  pub raising_failed : (fault : PlanFault) → IsTurnFault now (lo + k) turn fault → IsRaiseFault f lo marks fault
  raising_failed fault t = record {
    fault = λ allowed a.
        let n = length f.graph.nodes in
        let first = r.move allowed a in
        let second : IsMoveFault now (counted allowed n) (one_if turn) fault =
        subst (λ (s : SumGraphView). IsMoveFault now (counted allowed (length s.nodes)) (one_if turn) fault) r.graph (t.fault allowed (allows_turn allowed a))
        in
        let one : one_if turn ≡ one_if (is_missing f lo marks k) = ap one_if is_turn in
        fault-weaker f (counted allowed n) (counted allowed n) (counted (is_missing f lo marks) k + one_if turn)
        (counted (is_missing f lo marks) (length marks)) fault (omega arith)
        (omega (arith, one, counted-longer (is_missing f lo marks) (suc k) (length marks) low))
        (fault-then f now (counted allowed n) (counted (is_missing f lo marks) k) (one_if turn) fault first second);
    heavy =
        let more = price_if turn (price_at toggle_weight now.graph (lo + k)) in
        let same = (r.move (λ j. true) (everything f lo marks)).budget in
        heavy-weaker f (prices toggle_weight f.graph lo k + more) (prices toggle_weight f.graph lo (length marks)) fault
        (omega (arith, turn_most toggle_weight, prices-longer toggle_weight f.graph lo (suc k) (length marks) low))
        (heavy-then f now (prices toggle_weight f.graph lo k) more fault same (r.paid weight_of toggle_weight weight_price) t.heavy);
  }

  module _ (next : ForwardView) (keeps : IsForward next) (t : IsTurned now (lo + k) turn next) where
    here : is_held next.lines (lo + k) ≡ (is_held f.lines (lo + k) || bit_of marks k)
    here =
        t.here
        ∙ ap (λ (b : Bool). turned b (is_held now.lines (lo + k))) e
        ∙ raised_bit (bit_of marks k) (is_held now.lines (lo + k))
        ∙ ap (λ (b : Bool). b || bit_of marks k) same_held

    inside : (i : ℕ) → i < suc k → is_held next.lines (lo + i) ≡ (is_held f.lines (lo + i) || bit_of marks i)
    inside i less = elim (cases_eq i k) as (λ _. is_held next.lines (lo + i) ≡ (is_held f.lines (lo + i) || bit_of marks i)) [
      | inl same ↦ subst (λ (m : ℕ). is_held next.lines (lo + m) ≡ (is_held f.lines (lo + m) || bit_of marks m)) (sym same) here
      | inr ne ↦
          let other : i ≢ k = ne in
          let apart : ¬ (lo + i ≡ lo + k) = λ same. other (omega (arith, same)) in
          t.others (lo + i) apart ∙ r.inside i (omega (arith, less, other))
    ]

    outside : (j : ℕ) → IsOutside lo (suc k) j → is_held next.lines j ≡ is_held f.lines j
    outside j out = elim out as (λ _. is_held next.lines j ≡ is_held f.lines j) [
      | inl below ↦ t.others j (λ same. absurd (omega (arith, below, same))) ∙ r.outside j (inl below)
      | inr above ↦ t.others j (λ same. absurd (omega (arith, above, same))) ∙ r.outside j (inr (omega (arith, above)))
    ]

    move : (allowed : ℕ → Bool) → Allows f lo marks allowed
        → IsMove f (counted allowed (length f.graph.nodes)) (counted (is_missing f lo marks) (suc k)) next
    move allowed a =
        let n = length f.graph.nodes in
        let second : IsMove now (counted allowed n) (one_if turn) next =
        move-graph now f next allowed (one_if turn) r.graph (t.move allowed (allows_turn allowed a)) in
        subst (λ (b : Bool). IsMove f (counted allowed n) (counted (is_missing f lo marks) k + one_if b) next) is_turn
        (move-then f now next (counted allowed n) (counted (is_missing f lo marks) k) (one_if turn) (r.move allowed a) second)

    -- a turn keeps the graph
    next_graph : next.graph ≡ f.graph
    next_graph = (t.move (λ j. true) (record { held = record { held = λ j is. refl }; turning = λ u. refl })).graph ∙ r.graph

    paid : (measure : GateView → ℕ) (price : SumView → ℕ) → IsPrice measure price
        → sum_by measure next.gates ≤ sum_by measure f.gates + prices price f.graph lo (suc k)
    paid measure price is = omega (arith, r.paid measure price is, t.paid measure price is, turn_most price)

    pub raising_more : IsRaising f lo marks (suc k) next
    raising_more = record { keeps = keeps; graph = next_graph; inside = inside; outside = outside; move = move; paid = paid }
