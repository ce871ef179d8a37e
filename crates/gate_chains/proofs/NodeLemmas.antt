-- The depths behind the gates of one node, which reads copies of its operands on its own lines.
use Rattle.std.proofs.Common.{◌≡◌, ◌≢◌, ℕ, ◌+◌, ◌-◌, ◌<◌, ◌≤◌, List, [], ◌∷◌, sym, subst, inl, inr, arith}
use Rattle.std.proofs.lemmas.Bool.{cases_eq}
use Rattle.mct_circuit.specs.Gates.{GateView, flip_of}
use Rattle.mct_circuit.specs.Sizes.{greatest_depth, toffoli_weight}
use Rattle.gate_chains.proofs.CopyLemmas.{depth_at, under_none, under_none_greatest, under_one, under_one_apart, under_one_greatest, under_one_within, under_two, under_two_apart, under_two_greatest}

-- the lines before c are within bounds, and no gate is on the others
pub record AreWithin (bound : ℕ → ℕ) (c most : ℕ) (gates : List GateView) : Type 0 where
  pub below : (line : ℕ) → line < c → depth_at line gates ≤ bound line
  pub fresh : (line : ℕ) → c ≤ line → depth_at line gates ≤ 0
  pub greatest : greatest_depth toffoli_weight gates ≤ most

-- the same behind the gates of a node of this level, which stands on three lines from c on
pub record AreWithinBehind (bound : ℕ → ℕ) (c level most : ℕ) (gates : List GateView) : Type 0 where
  pub below : (line : ℕ) → line < c → depth_at line gates ≤ bound line
  pub inner : (line : ℕ) → c ≤ line → line < c + 3 → depth_at line gates ≤ level
  pub fresh : (line : ℕ) → c + 3 ≤ line → depth_at line gates ≤ 0
  pub greatest : greatest_depth toffoli_weight gates ≤ most

less_other : (x y : ℕ) → x < y → x ≢ y
less_other x y less same = omega (arith, less, same)

more_other : (x y : ℕ) → y < x → x ≢ y
more_other x y more same = omega (arith, more, same)

-- ---- copies of the operands on lines c and c + 1

module _ (bound : ℕ → ℕ) (a b c p most : ℕ) (gates : List GateView) (is : AreWithin bound c most gates) (first : a < c) (second : b < c)
    (first_low : bound a ≤ p) (second_low : bound b ≤ p) (room : p ≤ most)
  where
    abbrev one : List GateView
    one = flip_of (a ∷ []) c ∷ gates

    abbrev two : List GateView
    two = flip_of (b ∷ []) (c + 1) ∷ one

    a_low : depth_at a gates ≤ p
    a_low = let low = is.below a first in omega (arith, low, first_low)

    b_low : depth_at b gates ≤ p
    b_low = let low = is.below b second in omega (arith, low, second_low)

    pub one_other : (line : ℕ) → line ≢ c → depth_at line one ≤ depth_at line gates
    one_other line other = under_one a c gates (let fresh = is.fresh c (omega arith) in omega (arith, fresh)) line other

    pub one_here : depth_at c one ≤ p
    one_here =
        let fresh = is.fresh c (omega arith) in under_one_within a c p gates a_low (omega (arith, fresh)) c (omega (arith, fresh))

    pub one_greatest : greatest_depth toffoli_weight one ≤ most
    one_greatest =
        let fresh = is.fresh c (omega arith) in
        under_one_greatest a c most gates (omega (arith, a_low, room)) (omega (arith, fresh)) is.greatest

    next_fresh : depth_at (c + 1) one ≤ 0
    next_fresh =
        let other = one_other (c + 1) (more_other (c + 1) c (omega arith)) in
        let fresh = is.fresh (c + 1) (omega arith) in
        omega (arith, other, fresh)

    b_still : depth_at b one ≤ p
    b_still = let other = one_other b (less_other b c second) in omega (arith, other, b_low)

    pub two_other : (line : ℕ) → line ≢ c → line ≢ c + 1 → depth_at line two ≤ depth_at line gates
    two_other line not_here not_next =
        let now = under_one b (c + 1) one (omega (arith, next_fresh)) line not_next in
        let before = one_other line not_here in
        omega (arith, now, before)

    pub two_here : depth_at c two ≤ p
    two_here =
        let now = under_one b (c + 1) one (omega (arith, next_fresh)) c (less_other c (c + 1) (omega arith)) in
        omega (arith, now, one_here)

    pub two_next : depth_at (c + 1) two ≤ p
    two_next = under_one_within b (c + 1) p one b_still (omega (arith, next_fresh)) (c + 1) (omega (arith, next_fresh))

    pub two_last : depth_at (c + 2) two ≤ 0
    two_last =
        let other = two_other (c + 2) (more_other (c + 2) c (omega arith)) (more_other (c + 2) (c + 1) (omega arith)) in
        let fresh = is.fresh (c + 2) (omega arith) in
        omega (arith, other, fresh)

    pub two_greatest : greatest_depth toffoli_weight two ≤ most
    two_greatest =
        under_one_greatest b (c + 1) most one (omega (arith, b_still, room)) (omega (arith, next_fresh)) one_greatest

    two_inner : (line : ℕ) → c ≤ line → line < c + 3 → depth_at line two ≤ p
    two_inner line from below = elim (cases_eq line c) as (λ _. depth_at line two ≤ p) [
      | inl e ↦ subst (λ (l : ℕ). depth_at l two ≤ p) (sym e) two_here
      | inr other ↦ elim (cases_eq line (c + 1)) as (λ _. depth_at line two ≤ p) [
        | inl e ↦ subst (λ (l : ℕ). depth_at l two ≤ p) (sym e) two_next
        | inr next ↦
            let last : line ≡ c + 2 = omega (arith, from, below, other, next) in
            subst (λ (l : ℕ). depth_at l two ≤ p) (sym last) (omega (arith, two_last))
      ]
    ]

    -- ---- an AND

    abbrev anded : List GateView
    anded = flip_of (c ∷ ((c + 1) ∷ [])) (c + 2) ∷ two

    and_apart : (line : ℕ) → line ≢ c → line ≢ c + 1 → line ≢ c + 2 → depth_at line anded ≤ depth_at line gates
    and_apart line not_here not_next not_last =
        let same = under_two_apart c (c + 1) (c + 2) two line not_here not_next not_last in
        let before = two_other line not_here not_next in
        omega (arith, same, before)

    pub and_within : p + 1 ≤ most → AreWithinBehind bound c (p + 1) most anded
    and_within more = record {
      below = λ line low.
          (let still = and_apart line (less_other line c low) (less_other line (c + 1) (omega (arith, low))) (less_other line (c + 2) (omega (arith, low))) in
          let before = is.below line low in
          omega (arith, still, before));
      inner = λ line from below.
          under_two c (c + 1) (c + 2) p two two_here two_next (omega (arith, two_last)) line
          (let before = two_inner line from below in omega (arith, before));
      fresh = λ line high.
          (let still = and_apart line (more_other line c (omega (arith, high))) (more_other line (c + 1) (omega (arith, high)))
          (more_other line (c + 2) (omega (arith, high))) in
          let before = is.fresh line (omega (arith, high)) in
          omega (arith, still, before));
      greatest = subst (λ (m : ℕ). greatest_depth toffoli_weight anded ≤ m) (omega (arith, more))
          (under_two_greatest c (c + 1) (c + 2) (most - 1) two (omega (arith, two_here, more)) (omega (arith, two_next, more))
          (omega (arith, two_last)) (omega (arith, two_greatest, more)));
    }

    -- ---- an XOR

    abbrev half : List GateView
    half = flip_of (c ∷ []) (c + 2) ∷ two

    abbrev summed : List GateView
    summed = flip_of ((c + 1) ∷ []) (c + 2) ∷ half

    half_next : depth_at (c + 1) half ≤ p
    half_next = under_one_within c (c + 2) p two two_here (omega (arith, two_last)) (c + 1) two_next

    half_last : depth_at (c + 2) half ≤ p
    half_last = under_one_within c (c + 2) p two two_here (omega (arith, two_last)) (c + 2) (omega (arith, two_last))

    sum_apart : (line : ℕ) → line ≢ c → line ≢ c + 1 → line ≢ c + 2 → depth_at line summed ≤ depth_at line gates
    sum_apart line not_here not_next not_last =
        let now = under_one_apart (c + 1) (c + 2) half line not_next not_last in
        let then = under_one_apart c (c + 2) two line not_here not_last in
        let before = two_other line not_here not_next in
        omega (arith, now, then, before)

    pub sum_within : AreWithinBehind bound c p most summed
    sum_within = record {
      below = λ line low.
          (let still = sum_apart line (less_other line c low) (less_other line (c + 1) (omega (arith, low))) (less_other line (c + 2) (omega (arith, low))) in
          let before = is.below line low in
          omega (arith, still, before));
      inner = λ line from below.
          under_one_within (c + 1) (c + 2) p half half_next half_last line
          (under_one_within c (c + 2) p two two_here (omega (arith, two_last)) line (two_inner line from below));
      fresh = λ line high.
          (let still = sum_apart line (more_other line c (omega (arith, high))) (more_other line (c + 1) (omega (arith, high)))
          (more_other line (c + 2) (omega (arith, high))) in
          let before = is.fresh line (omega (arith, high)) in
          omega (arith, still, before));
      greatest =
          under_one_greatest (c + 1) (c + 2) most half (omega (arith, half_next, room)) (omega (arith, half_last, room))
          (under_one_greatest c (c + 2) most two (omega (arith, two_here, room)) (omega (arith, two_last)) two_greatest);
    }

-- ---- a NOT, on lines c and c + 2

module _ (bound : ℕ → ℕ) (a c most : ℕ) (gates : List GateView) (is : AreWithin bound c most gates) (first : a < c) (room : bound a ≤ most)
  where
    abbrev copied : List GateView
    copied = flip_of (a ∷ []) c ∷ gates

    abbrev moved : List GateView
    moved = flip_of (c ∷ []) (c + 2) ∷ copied

    abbrev turned : List GateView
    turned = flip_of [] (c + 2) ∷ moved

    copied_other : (line : ℕ) → line ≢ c → depth_at line copied ≤ depth_at line gates
    copied_other line other = one_other bound a a c (bound a) most gates is first first (omega arith) (omega arith) room line other

    copied_here : depth_at c copied ≤ bound a
    copied_here = one_here bound a a c (bound a) most gates is first first (omega arith) (omega arith) room

    copied_last : depth_at (c + 2) copied ≤ 0
    copied_last =
        let other = copied_other (c + 2) (more_other (c + 2) c (omega arith)) in
        let fresh = is.fresh (c + 2) (omega arith) in
        omega (arith, other, fresh)

    moved_within : (line : ℕ) → depth_at line copied ≤ bound a → depth_at line moved ≤ bound a
    moved_within line low = under_one_within c (c + 2) (bound a) copied copied_here (omega (arith, copied_last)) line low

    turned_apart : (line : ℕ) → line ≢ c → line ≢ c + 2 → depth_at line turned ≤ depth_at line gates
    turned_apart line not_here not_last =
        let now = under_none (c + 2) moved line in
        let then = under_one_apart c (c + 2) copied line not_here not_last in
        let before = copied_other line not_here in
        omega (arith, now, then, before)

    copied_inner : (line : ℕ) → c ≤ line → depth_at line copied ≤ bound a
    copied_inner line from = elim (cases_eq line c) as (λ _. depth_at line copied ≤ bound a) [
      | inl e ↦ subst (λ (l : ℕ). depth_at l copied ≤ bound a) (sym e) copied_here
      | inr other ↦ (let still = copied_other line other in let fresh = is.fresh line from in omega (arith, still, fresh))
    ]

    pub not_within : AreWithinBehind bound c (bound a) most turned
    not_within = record {
      below = λ line low.
          (let still = turned_apart line (less_other line c low) (less_other line (c + 2) (omega (arith, low))) in
          let before = is.below line low in
          omega (arith, still, before));
      inner = λ line from below.
          (let now = under_none (c + 2) moved line in
          let then = moved_within line (copied_inner line from) in
          omega (arith, now, then));
      fresh = λ line high.
          (let still = turned_apart line (more_other line c (omega (arith, high))) (more_other line (c + 2) (omega (arith, high))) in
          let before = is.fresh line (omega (arith, high)) in
          omega (arith, still, before));
      greatest =
          under_none_greatest (c + 2) most moved
          (let low = moved_within (c + 2) (omega (arith, copied_last)) in omega (arith, low, room))
          (under_one_greatest c (c + 2) most copied (omega (arith, copied_here, room)) (omega (arith, copied_last))
          (one_greatest bound a a c (bound a) most gates is first first (omega arith) (omega arith) room));
    }
