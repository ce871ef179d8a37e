-- A block of which the wanted nodes are held, and what they rest on.
use Rattle.std.proofs.Common.{◌≡◌, ℕ, ◌+◌, ◌≤◌, Bool, true, ◌⊎◌, inr, List, length, sum_by, sym, ◌∙◌, subst, arith}
use Rattle.list_facts.specs.Bits.{bit_of}
use Rattle.circuit_plans.specs.declared.plan.PlanFault.{PlanFault}
use Rattle.held_nodes.specs.Held.{ForwardView, is_held}
use Rattle.bennett_pebbling.specs.inside.Changes.{IsRaised, IsRaiseFault, IsRisen, IsRiseFault, is_missing}
use Rattle.sum_toggles.specs.Toggles.{toggle_weight}
use Rattle.held_nodes.specs.Prices.{prices}
use Rattle.bennett_pebbling.specs.inside.Costs.{IsHeavy, counted, room_at, toggles_at}
use Rattle.bennett_pebbling.specs.inside.Marks.{AreNeeds, IsOutside}
use Rattle.bennett_pebbling.proofs.CostLemmas.{room_at-least, toggles_at-least}
use Rattle.bennett_pebbling.proofs.CountLemmas.{counted-most}
use Rattle.bennett_pebbling.proofs.MoveLemmas.{move-weaker, short-weaker}
use Rattle.bennett_pebbling.proofs.NeedLemmas.{bit_inside}
use Rattle.bennett_pebbling.proofs.ReachLemmas.{everything, has_reach, missing_few, missing_most}
use Rattle.bennett_pebbling.proofs.ReadyLemmas.{or_right_true}

module _ (f : ForwardView) (lo : ℕ) (wanted marks : List Bool) (m : AreNeeds f.graph lo wanted marks) where
  only : length wanted ≡ 1 → bit_of marks 0 ≡ true → (is_held f.lines (lo + 0) ≡ true) ⊎ (bit_of wanted 0 ≡ true)
  only one is = inr (sym (m.last 0 (omega (arith, one))) ∙ is)

  few : counted (is_missing f lo marks) (length marks) ≤ length wanted
  few = missing_most f lo wanted marks m.count only

  pub rise_short : (e : PlanFault) → IsRaiseFault f lo marks e → IsRiseFault f (length wanted) lo wanted e
  rise_short e fault =
      let n = length f.graph.nodes in
      let all = fault.fault (λ k. true) (everything f lo marks) in
      record {
        change = record {
          need = all.need;
          short = λ level width allowed covered a.
              let r = has_reach f lo wanted marks m.count only allowed a in
              short-weaker f (counted r.test n) (counted allowed n + room_at (length wanted) n width level) (counted (is_missing f lo marks) (length marks))
              (toggles_at (length wanted) level) e (omega (arith, r.few, room_at-least (length wanted) n width level))
              (omega (arith, missing_few f lo wanted marks m.count only, toggles_at-least (length wanted) level)) (fault.fault r.test r.allows).short;
        };
        plain = λ within. record {
          short =
              short-weaker f (counted (λ k. true) n) n (counted (is_missing f lo marks) (length marks)) (length wanted) e
              (counted-most (λ k. true) n) few all.short;
          heavy = subst (λ (c : ℕ). IsHeavy f (prices toggle_weight f.graph lo c) e) m.count fault.heavy;
        };
      }

  pub block_risen : (next : ForwardView) → IsRaised f lo marks next → IsRisen f (length wanted) lo wanted next
  block_risen next raised =
      let n = length f.graph.nodes in
      let all = raised.move (λ k. true) (everything f lo marks) in
      record {
        inside = λ k is.
            raised.inside k (bit_inside marks k (m.more k is)) ∙ or_right_true (is_held f.lines (lo + k)) (bit_of marks k) (m.more k is);
        outside = λ k out. raised.outside k (subst (λ (c : ℕ). IsOutside lo c k) (sym m.count) out);
        thrifty = record {
          graph = all.graph;
          budget = all.budget;
          move = λ level width allowed covered a.
              let r = has_reach f lo wanted marks m.count only allowed a in
              move-weaker f next (counted r.test n) (counted allowed n + room_at (length wanted) n width level) (counted (is_missing f lo marks) (length marks))
              (toggles_at (length wanted) level) (omega (arith, r.few, room_at-least (length wanted) n width level))
              (omega (arith, missing_few f lo wanted marks m.count only, toggles_at-least (length wanted) level)) (raised.move r.test r.allows);
        };
        plain = λ within. record {
          move =
              move-weaker f next (counted (λ k. true) n) n (counted (is_missing f lo marks) (length marks)) (length wanted)
              (counted-most (λ k. true) n) few all;
          paid = λ measure price is.
              subst (λ (c : ℕ). sum_by measure next.gates ≤ sum_by measure f.gates + prices price f.graph lo c) m.count (raised.paid measure price is);
        };
      }
