-- The falling pass over a block.
use Rattle.std.proofs.Common.{◌≡◌, ◌≢◌, ℕ, ◌+◌, ◌<◌, ◌≤◌, Bool, true, not, ◌&&◌, ◌⊎◌, inl, inr, List, length}
use Rattle.std.proofs.Common.{sym, ◌∙◌, ap, subst, refl, arith}
use Rattle.std.proofs.lemmas.Bool.{cases_eq, cases_lt}
use Rattle.list_facts.specs.Bits.{bit_of}
use Rattle.sum_graph.specs.Graphs.{SumGraphView}
use Rattle.circuit_plans.specs.declared.plan.PlanFault.{PlanFault}
use Rattle.held_nodes.specs.Held.{ForwardView, IsForward, is_held}
use Rattle.bennett_pebbling.specs.inside.Changes.{AllowsTurn, CanLower, CanTurn, IsLowered, IsLowerFault, IsTurned, IsTurnFault, is_extra, turned}
use Rattle.bennett_pebbling.specs.inside.Costs.{AllowsHeld, IsMove, IsMoveFault, counted, one_if}
use Rattle.bennett_pebbling.specs.inside.Marks.{RestsOn}
use Rattle.bennett_pebbling.proofs.CountLemmas.{counted-from, counted-from-all, counted-from-part}
use Rattle.bennett_pebbling.proofs.MoveLemmas.{no_move, move-then, fault-then, fault-weaker}
use Rattle.bennett_pebbling.proofs.NeedLemmas.{rests_below}
use Rattle.bennett_pebbling.proofs.ReadyLemmas.{and_left, in_or_out, is_ready, lowered_bit, move-graph}

-- from place k on exactly the wanted nodes are held
pub record IsLowering (f : ForwardView) (lo : ℕ) (wanted : List Bool) (k : ℕ) (now : ForwardView) : Type 0 where
  pub keeps : IsForward now
  pub graph : now.graph ≡ f.graph
  pub inside : (i : ℕ) → k ≤ i → i < length wanted → is_held now.lines (lo + i) ≡ bit_of wanted i
  pub outside : (j : ℕ) → (j < lo + k) ⊎ (lo + length wanted ≤ j) → is_held now.lines j ≡ is_held f.lines j
  pub move : (allowed : ℕ → Bool) → AllowsHeld f allowed
      → IsMove f (counted allowed (length f.graph.nodes)) (counted-from (is_extra f lo wanted) k (length wanted)) now

pub lowering_begun : (f : ForwardView) (lo : ℕ) (wanted : List Bool) → IsForward f → IsLowering f lo wanted (length wanted) f
lowering_begun f lo wanted keeps = record {
  keeps = keeps;
  graph = refl;
  inside = λ i above low. absurd (omega (arith, above, low));
  outside = λ j out. refl;
  move = λ allowed a. no_move f (counted allowed (length f.graph.nodes)) (counted-from (is_extra f lo wanted) (length wanted) (length wanted));
}

pub lowering_done : (f : ForwardView) (lo : ℕ) (wanted : List Bool) (now : ForwardView) → IsLowering f lo wanted 0 now → IsLowered f lo wanted now
lowering_done f lo wanted now r = record {
  exactly = record {
    inside = λ i low. r.inside i (omega arith) low;
    outside = λ j out. r.outside j (elim out as (λ _. (j < lo + 0) ⊎ (lo + length wanted ≤ j)) [
      | inl below ↦ inl (omega (arith, below))
      | inr above ↦ inr above
    ]);
  };
  move = λ allowed a.
      subst (λ (n : ℕ). IsMove f (counted allowed (length f.graph.nodes)) n now) (counted-from-all (is_extra f lo wanted) (length wanted)) (r.move allowed a);
}

-- k is the place that comes next below h
module _ (f : ForwardView) (lo : ℕ) (wanted : List Bool) (h k : ℕ) (next_is : k + 1 ≡ h) (now : ForwardView) (r : IsLowering f lo wanted h now)
    (low : h ≤ length wanted) (can : CanLower f lo wanted) (turn : Bool) (e : turn ≡ (is_held now.lines (lo + k) && not (bit_of wanted k))) where
  same_held : is_held now.lines (lo + k) ≡ is_held f.lines (lo + k)
  same_held = r.outside (lo + k) (inl (omega (arith, next_is)))

  is_turn : turn ≡ is_extra f lo wanted k
  is_turn = e ∙ ap (λ (b : Bool). b && not (bit_of wanted k)) same_held

  held_here : turn ≡ true → is_held now.lines (lo + k) ≡ true
  held_here t = and_left (is_held now.lines (lo + k)) (not (bit_of wanted k)) (sym e ∙ t)

  operand_held : turn ≡ true → (j : ℕ) → RestsOn now.graph (lo + k) j → is_held now.lines j ≡ true
  operand_held t j rests =
      let below = rests_below now.graph (lo + k) j r.keeps.sums rests in
      let rests_f : RestsOn f.graph (lo + k) j = subst (λ (s : SumGraphView). RestsOn s (lo + k) j) r.graph rests in
      r.outside j (inl (omega (arith, below, next_is))) ∙ can.ready k j (omega (arith, low, next_is)) (sym is_turn ∙ t) rests_f

  pub lowering_can : lo + k < length now.graph.nodes → CanTurn now (lo + k) turn
  lowering_can inside = record { ready = λ t. is_ready now.graph now.lines (lo + k) inside (operand_held t) }

  -- ---- a turn

  -- what is held now was held before
  was_held : (j : ℕ) → is_held now.lines j ≡ true → is_held f.lines j ≡ true
  was_held j is = elim (cases_lt j (lo + h)) as (λ _. is_held f.lines j ≡ true) [
    | inl below ↦ sym (r.outside j (inl below)) ∙ is
    | inr above ↦ elim (in_or_out lo (length wanted) j) as (λ _. is_held f.lines j ≡ true) [
      | inl p ↦
          let is_place = p.is in
          let is_wanted : bit_of wanted p.place ≡ true =
          sym (r.inside p.place (omega (arith, above, is_place)) p.low) ∙ ap (is_held now.lines) (sym p.is) ∙ is in
          ap (is_held f.lines) p.is ∙ can.wanted_held p.place is_wanted
      | inr out ↦ elim out as (λ _. is_held f.lines j ≡ true) [
        | inl under ↦ absurd (omega (arith, above, under))
        | inr over ↦ sym (r.outside j (inr over)) ∙ is
      ]
    ]
  ]

  allows_turn : (allowed : ℕ → Bool) → AllowsHeld f allowed → AllowsTurn now (lo + k) turn allowed
  allows_turn allowed a = record {
    held = record { held = λ j is. a.held j (was_held j is) };
    turning = λ t. a.held (lo + k) (was_held (lo + k) (held_here t));
  }

  one_more : counted-from (is_extra f lo wanted) h (length wanted) + one_if turn ≡ counted-from (is_extra f lo wanted) k (length wanted)
  one_more =
      let one : one_if turn ≡ one_if (is_extra f lo wanted k) = ap one_if is_turn in
      omega (arith, one, counted-from-part (is_extra f lo wanted) k h (length wanted) next_is low)

  pub lowering_failed : (fault : PlanFault) → IsTurnFault now (lo + k) turn fault → IsLowerFault f lo wanted fault
  lowering_failed fault t = record {
    fault = λ allowed a.
        let n = length f.graph.nodes in
        let test = is_extra f lo wanted in
        let first = r.move allowed a in
        let second : IsMoveFault now (counted allowed n) (one_if turn) fault =
        subst (λ (s : SumGraphView). IsMoveFault now (counted allowed (length s.nodes)) (one_if turn) fault) r.graph (t.fault allowed (allows_turn allowed a))
        in
        fault-weaker f (counted allowed n) (counted allowed n) (counted-from test h (length wanted) + one_if turn) (counted test (length wanted)) fault
        (omega arith) (omega (arith, one_more)) (fault-then f now (counted allowed n) (counted-from test h (length wanted)) (one_if turn) fault first second);
  }

  module _ (next : ForwardView) (keeps : IsForward next) (t : IsTurned now (lo + k) turn next) where
    here : is_held next.lines (lo + k) ≡ bit_of wanted k
    here =
        t.here
        ∙ ap (λ (b : Bool). turned b (is_held now.lines (lo + k))) e
        ∙ lowered_bit (bit_of wanted k) (is_held now.lines (lo + k)) (λ is. same_held ∙ can.wanted_held k is)

    inside : (i : ℕ) → k ≤ i → i < length wanted → is_held next.lines (lo + i) ≡ bit_of wanted i
    inside i above less = elim (cases_eq i k) as (λ _. is_held next.lines (lo + i) ≡ bit_of wanted i) [
      | inl same ↦ subst (λ (m : ℕ). is_held next.lines (lo + m) ≡ bit_of wanted m) (sym same) here
      | inr ne ↦
          let other : i ≢ k = ne in
          let apart : ¬ (lo + i ≡ lo + k) = λ same. other (omega (arith, same)) in
          t.others (lo + i) apart ∙ r.inside i (omega (arith, above, other, next_is)) less
    ]

    outside : (j : ℕ) → (j < lo + k) ⊎ (lo + length wanted ≤ j) → is_held next.lines j ≡ is_held f.lines j
    outside j out = elim out as (λ _. is_held next.lines j ≡ is_held f.lines j) [
      | inl below ↦ t.others j (λ same. absurd (omega (arith, below, same))) ∙ r.outside j (inl (omega (arith, below, next_is)))
      | inr above ↦ t.others j (λ same. absurd (omega (arith, above, same, low, next_is))) ∙ r.outside j (inr above)
    ]

    move : (allowed : ℕ → Bool) → AllowsHeld f allowed
        → IsMove f (counted allowed (length f.graph.nodes)) (counted-from (is_extra f lo wanted) k (length wanted)) next
    move allowed a =
        let n = length f.graph.nodes in
        let test = is_extra f lo wanted in
        let second : IsMove now (counted allowed n) (one_if turn) next =
        move-graph now f next allowed (one_if turn) r.graph (t.move allowed (allows_turn allowed a)) in
        subst (λ (m : ℕ). IsMove f (counted allowed n) m next) one_more
        (move-then f now next (counted allowed n) (counted-from test h (length wanted)) (one_if turn) (r.move allowed a) second)

    next_graph : next.graph ≡ f.graph
    next_graph = (t.move (λ j. true) (record { held = record { held = λ j is. refl }; turning = λ u. refl })).graph ∙ r.graph

    pub lowering_more : IsLowering f lo wanted k next
    lowering_more = record { keeps = keeps; graph = next_graph; inside = inside; outside = outside; move = move }
