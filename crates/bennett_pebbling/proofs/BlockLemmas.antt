-- A block is changed: its passes, and what they cost.
use Rattle.std.proofs.Common.{◌≡◌, ℕ, zero, suc, ◌+◌, ◌<◌, ◌≤◌, Bool, true, false, not, ◌&&◌, ◌||◌, ◌⊎◌, inl, inr, List, length}
use Rattle.std.proofs.Common.{sym, ◌∙◌, ap, subst, refl, arith}
use Rattle.list_facts.specs.Bits.{bit_of}
use Rattle.sum_graph.specs.Graphs.{SumGraphView}
use Rattle.circuit_plans.specs.declared.plan.PlanFault.{PlanFault}
use Rattle.held_nodes.specs.Held.{ForwardView, IsForward, is_held}
use Rattle.bennett_pebbling.specs.inside.Changes.{CanLower, IsChanged, IsChangeFault, IsLowered, IsLowerFault, IsRaised, IsRaiseFault, IsReadyBelow}
use Rattle.bennett_pebbling.specs.inside.Changes.{is_extra, is_missing}
use Rattle.bennett_pebbling.specs.inside.Costs.{Allows, AllowsHeld, IsCovered, IsMove, IsMoveFault, block_toggles, counted, one_if, room_at, toggles_at}
use Rattle.bennett_pebbling.specs.inside.Marks.{AreDifferences, AreNeeds, IsOutside, RestsOn, differ}
use Rattle.bennett_pebbling.proofs.CostLemmas.{room_at-least, toggles_at-least}
use Rattle.bennett_pebbling.proofs.CountLemmas.{counted-most}
use Rattle.bennett_pebbling.proofs.MoveLemmas.{move-then, move-weaker, need-then, short-then, short-weaker}
use Rattle.bennett_pebbling.proofs.NeedLemmas.{bit_inside, rests_below}
use Rattle.bennett_pebbling.proofs.ReachLemmas.{everything, has_reach, missing_few}
use Rattle.bennett_pebbling.proofs.ReadyLemmas.{and_left, and_right, in_or_out, or_left_true, or_right_true, or_true}

-- ---- bits

-- what differs is held or wanted
differ_some : (h w : Bool) → differ h w ≡ true → (h ≡ true) ⊎ (w ≡ true)
differ_some true w e = inl refl
differ_some false w e = inr e

-- what is wanted is held or differs
wanted_some : (h w : Bool) → w ≡ true → (h ≡ true) ⊎ (differ h w ≡ true)
wanted_some true w e = inl refl
wanted_some false w e = inr e

-- what is held and not wanted differs
extra_differs : (h w : Bool) → h ≡ true → w ≡ false → differ h w ≡ true
extra_differs true w e none = ap not none
extra_differs false w e none = absurd (let clash : false ≡ true = e in cc)

not_true : (b : Bool) → not b ≡ true → b ≡ false
not_true true e = absurd (let clash : false ≡ true = e in cc)
not_true false e = refl

-- one node is toggled once
once : (h w : Bool) → one_if (differ h w && not h) + one_if ((h || differ h w) && not w) ≤ 1
once true true = omega arith
once true false = omega arith
once false true = omega arith
once false false = omega arith

-- ---- a block

module _ (f : ForwardView) (lo : ℕ) (wanted start marks : List Bool) (d : AreDifferences f.lines lo wanted start) (m : AreNeeds f.graph lo start marks)
  where
    long : length marks ≡ length wanted
    long = m.count ∙ d.count

    -- the only node of a block is marked where it differs
    only_bit : length wanted ≡ 1 → bit_of marks 0 ≡ differ (is_held f.lines (lo + 0)) (bit_of wanted 0)
    only_bit one = m.last 0 (omega (arith, one, d.count)) ∙ d.marked 0 (omega (arith, one))

    only : length wanted ≡ 1 → bit_of marks 0 ≡ true → (is_held f.lines (lo + 0) ≡ true) ⊎ (bit_of wanted 0 ≡ true)
    only one is = differ_some (is_held f.lines (lo + 0)) (bit_of wanted 0) (sym (only_bit one) ∙ is)

    -- the rising pass falls short
    pub raise_short : (e : PlanFault) → IsRaiseFault f lo marks e → IsChangeFault f (length wanted) lo wanted e
    raise_short e fault = record {
      need = (fault.fault (λ k. true) (everything f lo marks)).need;
      short = λ level width allowed covered a.
          let n = length f.graph.nodes in
          let r = has_reach f lo wanted marks long only allowed a in
          short-weaker f (counted r.test n) (counted allowed n + room_at (length wanted) n width level) (counted (is_missing f lo marks) (length marks))
          (toggles_at (length wanted) level) e (omega (arith, r.few, room_at-least (length wanted) n width level))
          (omega (arith, missing_few f lo wanted marks long only, toggles_at-least (length wanted) level)) (fault.fault r.test r.allows).short;
    }

    module _ (mid : ForwardView) (raised : IsRaised f lo marks mid) (ready : IsReadyBelow f lo (length wanted)) (settled : IsForward mid) where
      plain : IsMove f (counted (λ k. true) (length f.graph.nodes)) (counted (is_missing f lo marks) (length marks)) mid
      plain = raised.move (λ k. true) (everything f lo marks)

      pub block_graph : mid.graph ≡ f.graph
      block_graph = plain.graph

      inside_mid : (k : ℕ) → k < length wanted → is_held mid.lines (lo + k) ≡ (is_held f.lines (lo + k) || bit_of marks k)
      inside_mid k low = raised.inside k (omega (arith, low, long))

      outside_mid : (k : ℕ) → IsOutside lo (length wanted) k → is_held mid.lines k ≡ is_held f.lines k
      outside_mid k out = raised.outside k (subst (λ (n : ℕ). IsOutside lo n k) (sym long) out)

      marked_held : (k : ℕ) → bit_of marks k ≡ true → is_held mid.lines (lo + k) ≡ true
      marked_held k is = raised.inside k (bit_inside marks k is) ∙ or_right_true (is_held f.lines (lo + k)) (bit_of marks k) is

      wanted_held : (k : ℕ) → bit_of wanted k ≡ true → is_held mid.lines (lo + k) ≡ true
      wanted_held k is =
          let low = bit_inside wanted k is in
          elim (wanted_some (is_held f.lines (lo + k)) (bit_of wanted k) is) as (λ _. is_held mid.lines (lo + k) ≡ true) [
            | inl held ↦ inside_mid k low ∙ or_left_true (is_held f.lines (lo + k)) (bit_of marks k) held
            | inr differs ↦ marked_held k (m.more k (d.marked k low ∙ differs))
          ]

      extra_marked : (k : ℕ) → k < length wanted → is_extra mid lo wanted k ≡ true → bit_of marks k ≡ true
      extra_marked k low is =
          let held = and_left (is_held mid.lines (lo + k)) (not (bit_of wanted k)) is in
          let none = not_true (bit_of wanted k) (and_right (is_held mid.lines (lo + k)) (not (bit_of wanted k)) is) in
          elim (or_true (is_held f.lines (lo + k)) (bit_of marks k) (sym (inside_mid k low) ∙ held)) as (λ _. bit_of marks k ≡ true) [
            | inl was ↦ m.more k (d.marked k low ∙ extra_differs (is_held f.lines (lo + k)) (bit_of wanted k) was none)
            | inr marked ↦ marked
          ]

      operand_held : (k j : ℕ) → k < length wanted → is_extra mid lo wanted k ≡ true → RestsOn mid.graph (lo + k) j → is_held mid.lines j ≡ true
      operand_held k j low is rests =
          let rests_f : RestsOn f.graph (lo + k) j = subst (λ (s : SumGraphView). RestsOn s (lo + k) j) plain.graph rests in
          let below = rests_below mid.graph (lo + k) j settled.sums rests in
          elim (in_or_out lo (length wanted) j) as (λ _. is_held mid.lines j ≡ true) [
            | inl p ↦
                ap (is_held mid.lines) p.is
                ∙ marked_held p.place
                (m.closed.closed k p.place (extra_marked k low is) (omega (arith, p.low, long)) (subst (RestsOn f.graph (lo + k)) p.is rests_f))
            | inr out ↦
                let under : j < lo = elim out [ inl l ↦ l | inr high ↦ absurd (omega (arith, high, below, low)) ] in
                outside_mid j out ∙ ready.ready (lo + k) j (omega arith) (omega (arith, low)) under rests_f
          ]

      pub block_can : CanLower mid lo wanted
      block_can = record { wanted_held = wanted_held; ready = operand_held }

      -- what is held after the rising pass is allowed
      held_allowed : (test : ℕ → Bool) → Allows f lo marks test → AllowsHeld mid test
      held_allowed test a = record {
        held = λ k is. elim (in_or_out lo (length wanted) k) as (λ _. test k ≡ true) [
          | inl p ↦
              let both = sym (inside_mid p.place p.low) ∙ ap (is_held mid.lines) (sym p.is) ∙ is in
              ap test p.is ∙ elim (or_true (is_held f.lines (lo + p.place)) (bit_of marks p.place) both) [
                | inl was ↦ a.held.held (lo + p.place) was
                | inr marked ↦ a.marked p.place marked
              ]
          | inr out ↦ a.held.held k (sym (outside_mid k out) ∙ is)
        ];
      }

      one_toggle : length wanted ≡ 1 → counted (is_missing f lo marks) 1 + counted (is_extra mid lo wanted) 1 ≤ 1
      one_toggle one =
          let h = is_held f.lines (lo + 0) in
          let w = bit_of wanted 0 in
          let bit : bit_of marks 0 ≡ differ h w = only_bit one in
          let missing : is_missing f lo marks 0 ≡ (differ h w && not h) = ap (λ (b : Bool). b && not h) bit in
          let extra : is_extra mid lo wanted 0 ≡ ((h || differ h w) && not w) =
          ap (λ (b : Bool). b && not w) (inside_mid 0 (omega (arith, one)) ∙ ap (λ (b : Bool). h || b) bit) in
          let first : one_if (is_missing f lo marks 0) ≡ one_if (differ h w && not h) = ap one_if missing in
          let second : one_if (is_extra mid lo wanted 0) ≡ one_if ((h || differ h w) && not w) = ap one_if extra in
          omega (arith, first, second, once h w)

      few_by : (count : ℕ) → length wanted ≡ count → counted (is_missing f lo marks) count + counted (is_extra mid lo wanted) count ≤ block_toggles count
      few_by zero e = omega arith
      few_by (suc zero) e = one_toggle e
      few_by (suc (suc count)) e =
          omega (arith, counted-most (is_missing f lo marks) (suc (suc count)), counted-most (is_extra mid lo wanted) (suc (suc count)))

      few_toggles : counted (is_missing f lo marks) (length marks) + counted (is_extra mid lo wanted) (length wanted) ≤ block_toggles (length wanted)
      few_toggles =
          subst (λ (n : ℕ). counted (is_missing f lo marks) n + counted (is_extra mid lo wanted) (length wanted) ≤ block_toggles (length wanted)) (sym long)
          (few_by (length wanted) refl)

      -- the falling pass falls short
      pub lower_short : (e : PlanFault) → IsLowerFault mid lo wanted e → IsChangeFault f (length wanted) lo wanted e
      lower_short e fault = record {
        need = need-then f mid e plain.graph plain.budget (fault.fault (λ k. true) (record { held = λ k is. refl })).need;
        short = λ level width allowed covered a.
            let n = length f.graph.nodes in
            let r = has_reach f lo wanted marks long only allowed a in
            let second =
            subst (λ (s : SumGraphView). IsMoveFault mid (counted r.test (length s.nodes)) (counted (is_extra mid lo wanted) (length wanted)) e) plain.graph
            (fault.fault r.test (held_allowed r.test r.allows)) in
            short-weaker f (counted r.test n) (counted allowed n + room_at (length wanted) n width level)
            (counted (is_missing f lo marks) (length marks) + counted (is_extra mid lo wanted) (length wanted))
            (toggles_at (length wanted) level) e (omega (arith, r.few, room_at-least (length wanted) n width level))
            (omega (arith, few_toggles, toggles_at-least (length wanted) level))
            (short-then f mid (counted r.test n) (counted (is_missing f lo marks) (length marks)) (counted (is_extra mid lo wanted) (length wanted)) e
            (raised.move r.test r.allows) second.short);
      }

      module _ (next : ForwardView) (lowered : IsLowered mid lo wanted next) where
        after : IsMove mid (counted (λ k. true) (length mid.graph.nodes)) (counted (is_extra mid lo wanted) (length wanted)) next
        after = lowered.move (λ k. true) (record { held = λ k is. refl })

        move : (level width : ℕ) (allowed : ℕ → Bool) → IsCovered f.graph (length wanted) (length wanted) level width → Allows f lo wanted allowed
            → IsMove f (counted allowed (length f.graph.nodes) + room_at (length wanted) (length f.graph.nodes) width level)
            (toggles_at (length wanted) level) next
        move level width allowed covered a =
            let n = length f.graph.nodes in
            let r = has_reach f lo wanted marks long only allowed a in
            let second =
            subst (λ (s : SumGraphView). IsMove mid (counted r.test (length s.nodes)) (counted (is_extra mid lo wanted) (length wanted)) next) plain.graph
            (lowered.move r.test (held_allowed r.test r.allows)) in
            move-weaker f next (counted r.test n) (counted allowed n + room_at (length wanted) n width level)
            (counted (is_missing f lo marks) (length marks) + counted (is_extra mid lo wanted) (length wanted))
            (toggles_at (length wanted) level) (omega (arith, r.few, room_at-least (length wanted) n width level))
            (omega (arith, few_toggles, toggles_at-least (length wanted) level))
            (move-then f mid next (counted r.test n) (counted (is_missing f lo marks) (length marks)) (counted (is_extra mid lo wanted) (length wanted))
            (raised.move r.test r.allows) second)

        pub block_changed : IsChanged f (length wanted) lo wanted next
        block_changed = record {
          exactly = record {
            inside = lowered.exactly.inside;
            outside = λ k out. lowered.exactly.outside k out ∙ outside_mid k out;
          };
          thrifty = record { graph = after.graph ∙ plain.graph; budget = after.budget ∙ plain.budget; move = move };
        }
