-- What is held at most in a block, and at how many toggles.
use Rattle.std.proofs.Common.{◌≡◌, ℕ, zero, suc, ◌+◌, ◌<◌, ◌≤◌, min, Bool, true, ◌||◌, ◌⊎◌, inl, inr, List, length, sym, ◌∙◌, ap, subst, refl, arith}
use Rattle.list_facts.specs.Bits.{bit_of}
use Rattle.held_nodes.specs.Held.{ForwardView, is_held}
use Rattle.bennett_pebbling.specs.inside.Changes.{is_missing}
use Rattle.bennett_pebbling.specs.inside.Costs.{Allows, block_room, block_toggles, counted}
use Rattle.bennett_pebbling.proofs.CostLemmas.{block_toggles-enough}
use Rattle.bennett_pebbling.proofs.CountLemmas.{between-at, counted-between, counted-most, counted-or, is_between}
use Rattle.bennett_pebbling.proofs.NeedLemmas.{bit_inside}
use Rattle.bennett_pebbling.proofs.ReadyLemmas.{or_left_true, or_right_true}

-- any node may be held
pub everything : (f : ForwardView) (lo : ℕ) (wanted : List Bool) → Allows f lo wanted (λ k. true)
everything f lo wanted = record { held = record { held = λ k is. refl }; marked = λ k is. refl }

-- a test within the room of a block that passes what is allowed and what is marked
pub record HasReach (f : ForwardView) (lo count : ℕ) (marks : List Bool) (allowed : ℕ → Bool) : Type 0 where
  pub test : ℕ → Bool
  pub allows : Allows f lo marks test
  pub few : counted test (length f.graph.nodes) ≤ counted allowed (length f.graph.nodes) + block_room count (length f.graph.nodes)

module _ (f : ForwardView) (lo : ℕ) (wanted marks : List Bool) (long : length marks ≡ length wanted)
    (only : length wanted ≡ 1 → bit_of marks 0 ≡ true → (is_held f.lines (lo + 0) ≡ true) ⊎ (bit_of wanted 0 ≡ true)) where
  wide_reach : (allowed : ℕ → Bool) → Allows f lo wanted allowed
      → block_room (length wanted) (length f.graph.nodes) ≡ min (length wanted) (length f.graph.nodes)
      → HasReach f lo (length wanted) marks allowed
  wide_reach allowed a room = record {
    test = λ k. allowed k || is_between lo (length wanted) k;
    allows = record {
      held = record { held = λ k is. or_left_true (allowed k) (is_between lo (length wanted) k) (a.held.held k is) };
      marked = λ k is.
          or_right_true (allowed (lo + k)) (is_between lo (length wanted) (lo + k))
          (between-at lo (length wanted) k (subst (λ (n : ℕ). k < n) long (bit_inside marks k is)));
    };
    few =
        let n = length f.graph.nodes in
        omega (arith, room, counted-or allowed (is_between lo (length wanted)) n, counted-between lo (length wanted) n);
  }

  narrow_reach : (allowed : ℕ → Bool) → Allows f lo wanted allowed → length wanted ≡ 1 → HasReach f lo (length wanted) marks allowed
  narrow_reach allowed a one = record {
    test = allowed;
    allows = record {
      held = a.held;
      marked = λ k is.
          let low = bit_inside marks k is in
          let first : k ≡ 0 = omega (arith, low, long, one) in
          ap (λ (i : ℕ). allowed (lo + i)) first ∙ elim (only one (ap (bit_of marks) (sym first) ∙ is)) [
            | inl held ↦ a.held.held (lo + 0) held
            | inr want ↦ a.marked 0 want
          ];
    };
    few = omega arith;
  }

  reach_by : (count : ℕ) → length wanted ≡ count → (allowed : ℕ → Bool) → Allows f lo wanted allowed → HasReach f lo (length wanted) marks allowed
  reach_by zero e allowed a = wide_reach allowed a (rw e refl)
  reach_by (suc zero) e allowed a = narrow_reach allowed a e
  reach_by (suc (suc count)) e allowed a = wide_reach allowed a (rw e refl)

  pub has_reach : (allowed : ℕ → Bool) → Allows f lo wanted allowed → HasReach f lo (length wanted) marks allowed
  has_reach = reach_by (length wanted) refl

  pub missing_most : counted (is_missing f lo marks) (length marks) ≤ length wanted
  missing_most = omega (arith, long, counted-most (is_missing f lo marks) (length marks))

  pub missing_few : counted (is_missing f lo marks) (length marks) ≤ block_toggles (length wanted)
  missing_few = omega (arith, missing_most, block_toggles-enough (length wanted))
