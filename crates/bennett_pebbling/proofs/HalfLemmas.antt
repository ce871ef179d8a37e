-- A range is changed by halves.
use Rattle.std.proofs.Common.{◌≡◌, ℕ, zero, suc, ◌+◌, ◌-◌, ◌*◌, ◌<◌, ◌≤◌, Bool, true, false, ◌||◌, inl, inr, List, [], length, get_or, take, drop}
use Rattle.std.proofs.Common.{sym, ◌∙◌, ap, subst, arith}
use Rattle.std.specs.Prelude.{nat_le}
use Rattle.std.specs.List.{list_any}
use Rattle.std.proofs.lemmas.Bool.{cases_lt, leb-true, le-leb}
use Rattle.std.proofs.lemmas.List.{get_or-drop, get_or-take, length-drop, length-take-le}
use Rattle.list_facts.specs.Bits.{bit_of}
use Rattle.revs_tape.specs.Cuts.{is_in}
use Rattle.sum_graph.specs.Uses.{sum_output_nodes, sum_steps}
use Rattle.sum_graph.specs.Uses.{sum_cut, sum_last_use}
use Rattle.sum_graph.proofs.TableLemmas.{length-sum_steps}
use Rattle.dependency_graph.proofs.UseLemmas.{last_uses_tell_cuts, needed_later, some_from}
use Rattle.sum_graph.specs.Graphs.{SumGraphView}
use Rattle.claim_check.proofs.UsedLemmas.{is_in_from}
use Rattle.circuit_plans.specs.declared.plan.PlanFault.{PlanFault}
use Rattle.held_nodes.specs.Held.{ForwardView, IsForward, is_held}
use Rattle.bennett_pebbling.specs.inside.Changes.{CanWork, IsChanged, IsChangeFault, IsReadyBelow, IsRisen, IsRiseFault, IsThrifty}
use Rattle.bennett_pebbling.specs.inside.Costs.{Allows, AllowsHeld, IsCovered, IsMove, IsShort, counted, reach_of, room_at, size_at, toggles_at}
use Rattle.bennett_pebbling.specs.inside.Marks.{AreHalves, AreNeeded, IsHalf, IsOutside, RestsOn}
use Rattle.bennett_pebbling.proofs.CountLemmas.{counted-in, counted-or}
use Rattle.bennett_pebbling.proofs.MoveLemmas.{move-then, move-weaker, need-then, short-then, short-weaker}
use Rattle.bennett_pebbling.proofs.NeedLemmas.{bit_inside}
use Rattle.bennett_pebbling.proofs.ReadyLemmas.{in_or_out, or_left_true, or_right_true, or_true}

-- ---- cuts

-- a node below j on which a node from j on rests is used there
pub later_use : (s : SumGraphView) (k i j : ℕ) → j ≤ k → k < length s.nodes → RestsOn s k i → j ≤ sum_last_use s i
later_use s k i j above low rests =
    let g = s in
    let steps = sum_steps g in
    let long = length-sum_steps g in
    let read : is_in (get_or steps k []) i ≡ true = is_in_from i (get_or steps k []) rests.among in
    let some : list_any (λ operands. is_in operands i) (drop j steps) ≡ true = some_from steps i j k above (omega (arith, low, long)) read in
    needed_later steps (sum_output_nodes g) i j (omega (arith, above, low, long))
    (or_right_true (is_in (sum_output_nodes g) i) (list_any (λ operands. is_in operands i) (drop j steps)) some)

-- a node below j that is used from j on is in the cut
pub in_cut : (s : SumGraphView) (i j : ℕ) → i < j → j ≤ length s.nodes → j ≤ sum_last_use s i → is_in (sum_cut s j) i ≡ true
in_cut s i j low inside later =
    let g = s in
    let long = length-sum_steps g in
    is_in_from i (sum_cut g j) ((last_uses_tell_cuts (sum_steps g) (sum_output_nodes g) i j low (omega (arith, inside, long))).1 later)

-- ---- halves

-- the marks of a range, in two halves
pub record IsSplit (wanted left right : List Bool) (half : ℕ) : Type 0 where
  pub left_count : length left ≡ half
  pub right_count : half + length right ≡ length wanted
  pub left_bits : (k : ℕ) → k < half → bit_of left k ≡ bit_of wanted k
  pub right_bits : (k : ℕ) → bit_of right k ≡ bit_of wanted (half + k)

-- what is allowed, and the cut at node j
abbrev pub wider : SumGraphView → ℕ → (ℕ → Bool) → ℕ → Bool
wider s j allowed k = allowed k || is_in (sum_cut s j) k

wider-few : (s : SumGraphView) (j width n : ℕ) (allowed : ℕ → Bool) → length (sum_cut s j) ≤ width
    → counted (wider s j allowed) n ≤ counted allowed n + width
wider-few s j width n allowed few =
    omega (arith, few, counted-or allowed (is_in (sum_cut s j)) n, counted-in (sum_cut s j) n)

-- what holds on all levels that cover a range, said of the graph of the forward part
over_graph : (s : SumGraphView) (f : ForwardView) (block lo : ℕ) (wanted : List Bool) (Costs : ℕ → ℕ → Type 0) → f.graph ≡ s
    → ((level width : ℕ) (allowed : ℕ → Bool) → IsCovered f.graph block (length wanted) level width → Allows f lo wanted allowed
    → Costs (reach_of f block level width allowed) (toggles_at block level))
    → (level width : ℕ) (allowed : ℕ → Bool) → IsCovered s block (length wanted) level width → Allows f lo wanted allowed
    → Costs (counted allowed (length s.nodes) + room_at block (length s.nodes) width level) (toggles_at block level)
over_graph s f block lo wanted Costs same all =
    subst (λ (x : SumGraphView). (level width : ℕ) (allowed : ℕ → Bool) → IsCovered x block (length wanted) level width → Allows f lo wanted allowed
    → Costs (counted allowed (length x.nodes) + room_at block (length x.nodes) width level) (toggles_at block level))
    same all

-- a range of more than one block, and its halves: what the first one holds for the second is marked, too
pub record IsInHalves (f : ForwardView) (block lo : ℕ) (wanted left right needed : List Bool) (half : ℕ) : Type 0 where
  pub halves : IsHalf (length wanted) half
  pub split : IsSplit wanted left right half
  pub need : AreNeeded f.graph lo left needed
  pub inside : lo + length wanted ≤ length f.graph.nodes
  pub ready : IsReadyBelow f lo (length wanted)
  pub over : block < length wanted

split_of : (wanted left right : List Bool) (half : ℕ) → IsHalf (length wanted) half → left ≡ take half wanted → right ≡ drop half wanted
    → IsSplit wanted left right half
split_of wanted left right half halves front back =
    let low : half ≤ length wanted = omega (arith, halves.less) in
    record {
      left_count = ap length front ∙ length-take-le half wanted low;
      right_count = let e = ap length back in omega (arith, e, length-drop half wanted, low);
      left_bits = λ k less. ap (λ (xs : List Bool). bit_of xs k) front ∙ get_or-take half wanted k false less;
      right_bits = λ k. ap (λ (xs : List Bool). bit_of xs k) back ∙ get_or-drop half wanted k false;
    }

-- a range that was split at a place is in halves there
pub halved : (wanted left right : List Bool) (half : ℕ) → IsHalf (length wanted) half → left ≡ take half wanted → right ≡ drop half wanted
    → AreHalves wanted left right
halved wanted left right half is front back =
    let low : half ≤ length wanted = omega (arith, is.less) in
    let long : half ≡ length left = sym (ap length front ∙ length-take-le half wanted low) in
    record {
      half = subst (IsHalf (length wanted)) long is;
      front = subst (λ (n : ℕ). left ≡ take n wanted) long front;
      behind = subst (λ (n : ℕ). right ≡ drop n wanted) long back;
    }

pub in_halves : {f : ForwardView} {block lo : ℕ} {wanted left right needed marks : List Bool} {s : SumGraphView}
    → CanWork s f lo (length wanted) → AreHalves wanted left right → AreNeeded s lo left marks → needed ≡ marks → block < length wanted
    → IsInHalves f block lo wanted left right needed (length left)
in_halves {f} {block} {lo} {wanted} {left} {right} {needed} {marks} {s} can halves need is over = record {
  halves = halves.half;
  split = split_of wanted left right (length left) halves.half halves.front halves.behind;
  need = subst (AreNeeded f.graph lo left) (sym is) (subst (λ (x : SumGraphView). AreNeeded x lo left marks) can.graph need);
  inside = can.inside;
  ready = can.ready;
  over = over;
}

module _ {f : ForwardView} {block lo : ℕ} {wanted left right needed : List Bool} {half : ℕ} (h : IsInHalves f block lo wanted left right needed half) where
  needed_count : length needed ≡ half
  needed_count = h.need.count ∙ h.split.left_count

  needed_bit : (k : ℕ) → k < half → bit_of needed k ≡ (bit_of left k || nat_le (lo + half) (sum_last_use f.graph (lo + k)))
  needed_bit k low =
      h.need.marked k (omega (arith, low, h.split.left_count))
      ∙ ap (λ (m : ℕ). bit_of left k || nat_le (lo + m) (sum_last_use f.graph (lo + k))) h.split.left_count

  left_wanted : (k : ℕ) → bit_of left k ≡ true → bit_of wanted k ≡ true
  left_wanted k is = let low = bit_inside left k is in sym (h.split.left_bits k (omega (arith, low, h.split.left_count))) ∙ is

  needed_allowed : (allowed : ℕ → Bool) → Allows f lo wanted allowed → (k : ℕ) → bit_of needed k ≡ true
      → wider f.graph (lo + half) allowed (lo + k) ≡ true
  needed_allowed allowed a k is =
      let long = bit_inside needed k is in
      let low : k < half = omega (arith, long, needed_count) in
      elim (or_true (bit_of left k) (nat_le (lo + half) (sum_last_use f.graph (lo + k))) (sym (needed_bit k low) ∙ is))
      as (λ _. wider f.graph (lo + half) allowed (lo + k) ≡ true) [
        | inl want ↦ or_left_true (allowed (lo + k)) (is_in (sum_cut f.graph (lo + half)) (lo + k)) (a.marked k (left_wanted k want))
        | inr later ↦
            or_right_true (allowed (lo + k)) (is_in (sum_cut f.graph (lo + half)) (lo + k))
            (in_cut f.graph (lo + k) (lo + half) (omega (arith, low)) (omega (arith, h.inside, h.split.right_count))
            (leb-true (lo + half) (sum_last_use f.graph (lo + k)) later))
      ]

  allows_first : (allowed : ℕ → Bool) → Allows f lo wanted allowed → Allows f lo needed (wider f.graph (lo + half) allowed)
  allows_first allowed a = record {
    held = record { held = λ k is. or_left_true (allowed k) (is_in (sum_cut f.graph (lo + half)) k) (a.held.held k is) };
    marked = needed_allowed allowed a;
  }

  -- the first half is shorter, and so is the second
  pub first_less : 1 ≤ block → length needed < length wanted
  first_less some = omega (arith, needed_count, h.halves.less, h.over, some)

  pub second_less : 1 ≤ block → length right < length wanted
  second_less some = omega (arith, h.split.right_count, h.halves.more, h.over, some)

  pub third_less : 1 ≤ block → length left < length wanted
  third_less some = omega (arith, h.split.left_count, h.halves.less, h.over, some)

  pub can_first : (s : SumGraphView) → CanWork s f lo (length wanted) → CanWork s f lo (length needed)
  can_first s can = record {
    graph = can.graph;
    keeps = can.keeps;
    inside = omega (arith, can.inside, needed_count, h.split.right_count);
    ready = record { ready = λ k j above low. can.ready.ready k j above (omega (arith, low, needed_count, h.split.right_count)) };
  }

  -- ---- the numbers, one level up

  small : (level : ℕ) → length wanted ≤ 2 * size_at block level → half ≤ size_at block level
  small level enough = omega (arith, enough, h.halves.less)

  covered_needed : (level width : ℕ) → IsCovered f.graph block (length wanted) (suc level) width → IsCovered f.graph block (length needed) level width
  covered_needed level width c = record { cuts = c.cuts; enough = omega (arith, small level c.enough, needed_count) }

  covered_left : (level width : ℕ) → IsCovered f.graph block (length wanted) (suc level) width → IsCovered f.graph block (length left) level width
  covered_left level width c = record { cuts = c.cuts; enough = omega (arith, small level c.enough, h.split.left_count) }

  covered_right : (level width : ℕ) → IsCovered f.graph block (length wanted) (suc level) width → IsCovered f.graph block (length right) level width
  covered_right level width c = record { cuts = c.cuts; enough = omega (arith, small level c.enough, h.split.right_count, h.halves.more) }

  -- the reach of the halves
  half_reach : (level width : ℕ) → (ℕ → Bool) → ℕ
  half_reach level width allowed =
      counted (wider f.graph (lo + half) allowed) (length f.graph.nodes) + room_at block (length f.graph.nodes) width level

  reach_fits : (level width : ℕ) (allowed : ℕ → Bool) → IsCovered f.graph block (length wanted) (suc level) width
      → half_reach level width allowed ≤ counted allowed (length f.graph.nodes) + (width + room_at block (length f.graph.nodes) width level)
  unfolding half_reach
  reach_fits level width allowed c =
      let few =
      wider-few f.graph (lo + half) width (length f.graph.nodes) allowed (c.cuts (lo + half) (omega (arith, h.inside, h.split.right_count))) in
      omega (arith, few)

  never_zero : (width : ℕ) → IsCovered f.graph block (length wanted) 0 width → ⊥
  never_zero width c = omega (arith, c.enough, h.over)

  -- what the halves cost, the range may cost one level up
  one_level_up : (Costs : ℕ → ℕ → Type 0)
      → ((reach more toggles larger : ℕ) → reach ≤ more → toggles ≤ larger → Costs reach toggles → Costs more larger)
      → (toggles : ℕ → ℕ) → ((level : ℕ) → toggles level ≤ 3 * toggles_at block level)
      → ((level width : ℕ) (allowed : ℕ → Bool) → IsCovered f.graph block (length wanted) (suc level) width → Allows f lo wanted allowed
      → Costs (half_reach level width allowed) (toggles level))
      → (level width : ℕ) (allowed : ℕ → Bool) → IsCovered f.graph block (length wanted) level width → Allows f lo wanted allowed
      → Costs (reach_of f block level width allowed) (toggles_at block level)
  one_level_up Costs weaker toggles few halves zero width allowed c a = absurd (never_zero width c)
  one_level_up Costs weaker toggles few halves (suc level) width allowed c a =
      weaker (half_reach level width allowed) (reach_of f block (suc level) width allowed) (toggles level) (3 * toggles_at block level)
      (reach_fits level width allowed c) (few level) (halves level width allowed c a)

  pub first_short : (e : PlanFault) → IsChangeFault f block lo needed e → IsChangeFault f block lo wanted e
  unfolding half_reach
  first_short e fault = record {
    need = fault.need;
    short = one_level_up (λ reach turns. IsShort f reach turns e) (λ reach more turns larger. short-weaker f reach more turns larger e)
        (toggles_at block) (λ level. omega arith)
        (λ level width allowed c a. fault.short level width (wider f.graph (lo + half) allowed) (covered_needed level width c) (allows_first allowed a));
  }

  pub first_rise_short : (e : PlanFault) → IsChangeFault f block lo needed e → IsRiseFault f block lo wanted e
  first_rise_short e fault = record { change = first_short e fault; plain = λ within. absurd (omega (arith, within, h.over)) }

  module _ (first : ForwardView) (one : IsChanged f block lo needed first) where
    first_held : (k : ℕ) → k < half → is_held first.lines (lo + k) ≡ bit_of needed k
    first_held k low = one.exactly.inside k (omega (arith, low, needed_count))

    first_other : (k : ℕ) → IsOutside lo half k → is_held first.lines k ≡ is_held f.lines k
    first_other k out = one.exactly.outside k (subst (λ (c : ℕ). IsOutside lo c k) (sym needed_count) out)

    inside_second : lo + half + length right ≤ length first.graph.nodes
    inside_second =
        let e = ap (λ (s : SumGraphView). length s.nodes) one.thrifty.graph in omega (arith, e, h.inside, h.split.right_count)

    ready_second : IsReadyBelow first (lo + half) (length right)
    ready_second = record {
      ready = λ k j above low under rests.
          let rests_f : RestsOn f.graph k j = subst (λ (s : SumGraphView). RestsOn s k j) one.thrifty.graph rests in
          let top : k < lo + length wanted = omega (arith, low, h.split.right_count) in
          elim (in_or_out lo half j) as (λ _. is_held first.lines j ≡ true) [
            | inl p ↦
                let used : lo + half ≤ sum_last_use f.graph j = later_use f.graph k j (lo + half) above (omega (arith, top, h.inside)) rests_f in
                let later : nat_le (lo + half) (sum_last_use f.graph (lo + p.place)) ≡ true =
                le-leb (lo + half) (sum_last_use f.graph (lo + p.place))
                (subst (λ (i : ℕ). lo + half ≤ sum_last_use f.graph i) p.is used) in
                ap (is_held first.lines) p.is
                ∙ first_held p.place p.low
                ∙ needed_bit p.place p.low
                ∙ or_right_true (bit_of left p.place) (nat_le (lo + half) (sum_last_use f.graph (lo + p.place))) later
            | inr out ↦
                let below : j < lo = elim out [ inl l ↦ l | inr high ↦ absurd (omega (arith, high, under)) ] in
                first_other j out ∙ h.ready.ready k j (omega (arith, above)) top below rests_f
          ];
    }

    pub can_second : (s : SumGraphView) → CanWork s f lo (length wanted) → IsForward first → CanWork s first (lo + half) (length right)
    can_second s can keeps = record {
      graph = can.graph ∙ sym one.thrifty.graph;
      keeps = keeps;
      inside = inside_second;
      ready = ready_second;
    }

    held_first : (allowed : ℕ → Bool) → Allows f lo wanted allowed → AllowsHeld first (wider f.graph (lo + half) allowed)
    held_first allowed a = record {
      held = λ k is. elim (in_or_out lo half k) as (λ _. wider f.graph (lo + half) allowed k ≡ true) [
        | inl p ↦
            ap (wider f.graph (lo + half) allowed) p.is
            ∙ needed_allowed allowed a p.place (sym (first_held p.place p.low) ∙ ap (is_held first.lines) (sym p.is) ∙ is)
        | inr out ↦ (allows_first allowed a).held.held k (sym (first_other k out) ∙ is)
      ];
    }

    right_allowed : (allowed : ℕ → Bool) → Allows f lo wanted allowed → (k : ℕ) → bit_of right k ≡ true
        → wider f.graph (lo + half) allowed (lo + half + k) ≡ true
    right_allowed allowed a k is =
        let place : lo + (half + k) ≡ lo + half + k = omega arith in
        or_left_true (allowed (lo + half + k)) (is_in (sum_cut f.graph (lo + half)) (lo + half + k))
        (ap allowed (sym place) ∙ a.marked (half + k) (sym (h.split.right_bits k) ∙ is))

    allows_second : (allowed : ℕ → Bool) → Allows f lo wanted allowed → Allows first (lo + half) right (wider f.graph (lo + half) allowed)
    allows_second allowed a = record { held = held_first allowed a; marked = right_allowed allowed a }

    move_first : (level width : ℕ) (allowed : ℕ → Bool) → IsCovered f.graph block (length wanted) (suc level) width → Allows f lo wanted allowed
        → IsMove f (half_reach level width allowed) (toggles_at block level) first
    unfolding half_reach
    move_first level width allowed c a =
        one.thrifty.move level width (wider f.graph (lo + half) allowed) (covered_needed level width c) (allows_first allowed a)

    pub second_short : (e : PlanFault) → IsChangeFault first block (lo + half) right e → IsChangeFault f block lo wanted e
    unfolding half_reach
    second_short e fault = record {
      need = need-then f first e one.thrifty.graph one.thrifty.budget fault.need;
      short = one_level_up (λ reach turns. IsShort f reach turns e) (λ reach more turns larger. short-weaker f reach more turns larger e)
          (λ level. toggles_at block level + toggles_at block level) (λ level. omega arith) (λ level width allowed c a.
          short-then f first (half_reach level width allowed) (toggles_at block level) (toggles_at block level) e (move_first level width allowed c a)
          (over_graph f.graph first block (lo + half) right (λ reach toggles. IsShort first reach toggles e) one.thrifty.graph fault.short level width
          (wider f.graph (lo + half) allowed) (covered_right level width c) (allows_second allowed a)));
    }

    -- ---- the second half is done, by a change or by a rise

    move_second : (second : ForwardView) → IsThrifty first block (lo + half) right second
        → (level width : ℕ) (allowed : ℕ → Bool) → IsCovered f.graph block (length wanted) (suc level) width → Allows f lo wanted allowed
        → IsMove f (half_reach level width allowed) (toggles_at block level + toggles_at block level) second
    unfolding half_reach
    move_second second t level width allowed c a =
        move-then f first second (half_reach level width allowed) (toggles_at block level) (toggles_at block level) (move_first level width allowed c a)
        (over_graph f.graph first block (lo + half) right (λ reach toggles. IsMove first reach toggles second) one.thrifty.graph t.move level width
        (wider f.graph (lo + half) allowed)
        (covered_right level width c) (allows_second allowed a))

    pub thrifty_second : (second : ForwardView) → IsThrifty first block (lo + half) right second → IsThrifty f block lo wanted second
    thrifty_second second t = record {
      graph = t.graph ∙ one.thrifty.graph;
      budget = t.budget ∙ one.thrifty.budget;
      move = one_level_up (λ reach turns. IsMove f reach turns second) (λ reach more turns larger. move-weaker f second reach more turns larger)
          (λ level. toggles_at block level + toggles_at block level) (λ level. omega arith) (move_second second t);
    }

    -- ---- a rise

    pub halves_rise_short : (e : PlanFault) → IsRiseFault first block (lo + half) right e → IsRiseFault f block lo wanted e
    halves_rise_short e fault = record { change = second_short e fault.change; plain = λ within. absurd (omega (arith, within, h.over)) }

    module _ (second : ForwardView) (two : IsRisen first block (lo + half) right second) where
      risen_inside : (k : ℕ) → bit_of wanted k ≡ true → is_held second.lines (lo + k) ≡ true
      risen_inside k is = elim (cases_lt k half) as (λ _. is_held second.lines (lo + k) ≡ true) [
        | inl less ↦
            two.outside (lo + k) (inl (omega (arith, less)))
            ∙ first_held k less
            ∙ needed_bit k less
            ∙ or_left_true (bit_of left k) (nat_le (lo + half) (sum_last_use f.graph (lo + k))) (h.split.left_bits k less ∙ is)
        | inr above ↦
            let place : lo + k ≡ lo + half + (k - half) = omega (arith, above) in
            let number : half + (k - half) ≡ k = omega (arith, above) in
            ap (is_held second.lines) place ∙ two.inside (k - half) (h.split.right_bits (k - half) ∙ ap (bit_of wanted) number ∙ is)
      ]

      risen_outside : (k : ℕ) → IsOutside lo (length wanted) k → is_held second.lines k ≡ is_held f.lines k
      risen_outside k out = elim out as (λ _. is_held second.lines k ≡ is_held f.lines k) [
        | inl under ↦ two.outside k (inl (omega (arith, under))) ∙ first_other k (inl under)
        | inr above ↦
            two.outside k (inr (omega (arith, above, h.split.right_count))) ∙ first_other k (inr (omega (arith, above, h.split.right_count)))
      ]

      pub halves_risen : IsRisen f block lo wanted second
      halves_risen = record {
        inside = risen_inside;
        outside = risen_outside;
        thrifty = thrifty_second second two.thrifty;
        plain = λ within. absurd (omega (arith, within, h.over));
      }

    -- ---- a change

    module _ (second : ForwardView) (two : IsChanged first block (lo + half) right second) where
      second_held : (k : ℕ) → half ≤ k → k < length wanted → is_held second.lines (lo + k) ≡ bit_of wanted k
      second_held k above low =
          let place : lo + k ≡ lo + half + (k - half) = omega (arith, above) in
          let number : half + (k - half) ≡ k = omega (arith, above) in
          ap (is_held second.lines) place
          ∙ two.exactly.inside (k - half) (omega (arith, above, low, h.split.right_count))
          ∙ h.split.right_bits (k - half)
          ∙ ap (bit_of wanted) number

      graph_second : second.graph ≡ f.graph
      graph_second = two.thrifty.graph ∙ one.thrifty.graph

      inside_third : lo + length left ≤ length second.graph.nodes
      inside_third =
          let e = ap (λ (s : SumGraphView). length s.nodes) graph_second in
          omega (arith, e, h.inside, h.split.left_count, h.split.right_count)

      ready_third : IsReadyBelow second lo (length left)
      ready_third = record {
        ready = λ k j above low under rests.
            let rests_f : RestsOn f.graph k j = subst (λ (s : SumGraphView). RestsOn s k j) graph_second rests in
            two.exactly.outside j (inl (omega (arith, under)))
            ∙ first_other j (inl under)
            ∙ h.ready.ready k j above (omega (arith, low, h.split.left_count, h.split.right_count)) under rests_f;
      }

      pub can_third : (s : SumGraphView) → CanWork s f lo (length wanted) → IsForward second → CanWork s second lo (length left)
      can_third s can keeps = record {
        graph = can.graph ∙ sym graph_second;
        keeps = keeps;
        inside = inside_third;
        ready = ready_third;
      }

      held_second : (allowed : ℕ → Bool) → Allows f lo wanted allowed → AllowsHeld second (wider f.graph (lo + half) allowed)
      held_second allowed a = record {
        held = λ k is. elim (in_or_out (lo + half) (length right) k) as (λ _. wider f.graph (lo + half) allowed k ≡ true) [
          | inl p ↦
              ap (wider f.graph (lo + half) allowed) p.is
              ∙ right_allowed allowed a p.place (sym (two.exactly.inside p.place p.low) ∙ ap (is_held second.lines) (sym p.is) ∙ is)
          | inr out ↦ (held_first allowed a).held k (sym (two.exactly.outside k out) ∙ is)
        ];
      }

      allows_third : (allowed : ℕ → Bool) → Allows f lo wanted allowed → Allows second lo left (wider f.graph (lo + half) allowed)
      allows_third allowed a = record {
        held = held_second allowed a;
        marked = λ k is. or_left_true (allowed (lo + k)) (is_in (sum_cut f.graph (lo + half)) (lo + k)) (a.marked k (left_wanted k is));
      }

      pub third_short : (e : PlanFault) → IsChangeFault second block lo left e → IsChangeFault f block lo wanted e
      unfolding half_reach
      third_short e fault = record {
        need = need-then f first e one.thrifty.graph one.thrifty.budget (need-then first second e two.thrifty.graph two.thrifty.budget fault.need);
        short = one_level_up (λ reach turns. IsShort f reach turns e) (λ reach more turns larger. short-weaker f reach more turns larger e)
            (λ level. toggles_at block level + toggles_at block level + toggles_at block level) (λ level. omega arith)
            (λ level width allowed c a. let t = toggles_at block level in
            short-then f second (half_reach level width allowed) (t + t) t e (move_second second two.thrifty level width allowed c a)
            (over_graph f.graph second block lo left (λ reach toggles. IsShort second reach toggles e) graph_second fault.short level width
            (wider f.graph (lo + half) allowed) (covered_left level width c) (allows_third allowed a)));
      }

      module _ (next : ForwardView) (three : IsChanged second block lo left next) where
        whole_inside : (k : ℕ) → k < length wanted → is_held next.lines (lo + k) ≡ bit_of wanted k
        whole_inside k low = elim (cases_lt k half) as (λ _. is_held next.lines (lo + k) ≡ bit_of wanted k) [
          | inl less ↦ three.exactly.inside k (omega (arith, less, h.split.left_count)) ∙ h.split.left_bits k less
          | inr above ↦ three.exactly.outside (lo + k) (inr (omega (arith, above, h.split.left_count))) ∙ second_held k above low
        ]

        whole_outside : (k : ℕ) → IsOutside lo (length wanted) k → is_held next.lines k ≡ is_held f.lines k
        whole_outside k out = elim out as (λ _. is_held next.lines k ≡ is_held f.lines k) [
          | inl under ↦ three.exactly.outside k (inl under) ∙ two.exactly.outside k (inl (omega (arith, under))) ∙ first_other k (inl under)
          | inr above ↦
              three.exactly.outside k (inr (omega (arith, above, h.split.left_count, h.split.right_count)))
              ∙ two.exactly.outside k (inr (omega (arith, above, h.split.right_count)))
              ∙ first_other k (inr (omega (arith, above, h.split.right_count)))
        ]

        move_third : (level width : ℕ) (allowed : ℕ → Bool) → IsCovered f.graph block (length wanted) (suc level) width → Allows f lo wanted allowed
            → IsMove f (half_reach level width allowed) (toggles_at block level + toggles_at block level + toggles_at block level) next
        unfolding half_reach
        move_third level width allowed c a =
            let t = toggles_at block level in
            move-then f second next (half_reach level width allowed) (t + t) t (move_second second two.thrifty level width allowed c a)
            (over_graph f.graph second block lo left (λ reach toggles. IsMove second reach toggles next) graph_second three.thrifty.move level width
            (wider f.graph (lo + half) allowed) (covered_left level width c) (allows_third allowed a))

        pub halves_changed : IsChanged f block lo wanted next
        halves_changed = record {
          exactly = record { inside = whole_inside; outside = whole_outside };
          thrifty = record {
            graph = three.thrifty.graph ∙ graph_second;
            budget = three.thrifty.budget ∙ two.thrifty.budget ∙ one.thrifty.budget;
            move = one_level_up (λ reach turns. IsMove f reach turns next) (λ reach more turns larger. move-weaker f next reach more turns larger)
                (λ level. toggles_at block level + toggles_at block level + toggles_at block level) (λ level. omega arith)
                move_third;
          };
        }
