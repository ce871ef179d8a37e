-- How many nodes are held.
use Rattle.std.proofs.Common.{◌≡◌, ℕ, suc, ◌+◌, ◌-◌, ◌<◌, ◌≤◌, true, false, cond, is_some, inl, inr, List, [], ◌∷◌, length, Option, Some, None, refl, sym, ap}
use Rattle.std.proofs.Common.{◌∙◌, arith}
use Rattle.std.specs.List.{AllByRecursion}
use Rattle.std.proofs.lemmas.Bool.{cases_lt, true≢false}
use Rattle.std.proofs.lemmas.List.Sums.{sum_by-cons}
use Rattle.held_nodes.specs.Held.{held_count, is_held}
use Rattle.list_facts.specs.Lists.{AnyByRecursion, IsAmong, IsRising}
use Rattle.list_facts.proofs.AllLemmas.{AllByRecursion-weaker}
use Rattle.list_facts.proofs.AmongLemmas.{any_of}
use Rattle.list_facts.proofs.CountingLemmas.{no_more}
use Rattle.list_facts.proofs.OrderLemmas.{AreDifferent-rising}
use Rattle.eager_cleanup.proofs.CostLemmas.{rising_few}

-- the numbers of the nodes held on these lines, of which the first is that of node `from`
holders : ℕ → List (Option ℕ) → List ℕ
holders from [] = []
holders from (None ∷ xs) = holders (from + 1) xs
holders from (Some line ∷ xs) = from ∷ holders (from + 1) xs

-- each holder is held, and comes after `from`
record IsHolder (lines : List (Option ℕ)) (from k : ℕ) : Type 0 where
  after : from ≤ k
  held : is_held lines (k - from) ≡ true

holder_later : (x : Option ℕ) (xs : List (Option ℕ)) (from k : ℕ) → IsHolder xs (from + 1) k → IsHolder (x ∷ xs) from k
holder_later x xs from k is =
    let place : k - from ≡ suc (k - (from + 1)) = omega (arith, is.after) in
    record { after = omega (arith, is.after); held = ap (is_held (x ∷ xs)) place ∙ is.held }

holder_first : (line : ℕ) (xs : List (Option ℕ)) (from : ℕ) → IsHolder (Some line ∷ xs) from from
holder_first line xs from =
    let place : from - from ≡ 0 = omega arith in record { after = omega arith; held = ap (is_held (Some line ∷ xs)) place }

are_holders : (from : ℕ) (lines : List (Option ℕ)) → AllByRecursion (IsHolder lines from) (holders from lines)
unfolding holders
are_holders from [] = tt
are_holders from (None ∷ xs) =
    AllByRecursion-weaker (IsHolder xs (from + 1)) (IsHolder (None ∷ xs) from) (holder_later None xs from) (holders (from + 1) xs)
    (are_holders (from + 1) xs)
are_holders from (Some line ∷ xs) = (
  holder_first line xs from,
  AllByRecursion-weaker (IsHolder xs (from + 1)) (IsHolder (Some line ∷ xs) from) (holder_later (Some line) xs from) (holders (from + 1) xs)
      (are_holders (from + 1) xs),
)

rising_holders : (from : ℕ) (lines : List (Option ℕ)) → IsRising (holders from lines)
unfolding holders
rising_holders from [] = tt
rising_holders from (None ∷ xs) = rising_holders (from + 1) xs
rising_holders from (Some line ∷ xs) = (
  AllByRecursion-weaker (IsHolder xs (from + 1)) (λ k. from < k) (λ k is. omega (arith, is.after)) (holders (from + 1) xs) (are_holders (from + 1) xs),
  rising_holders (from + 1) xs,
)

abbrev one_if_held : Option ℕ → ℕ
one_if_held x = cond (is_some x) 1 0

length-holders : (from : ℕ) (lines : List (Option ℕ)) → length (holders from lines) ≡ held_count lines
unfolding holders
length-holders from [] = refl
length-holders from (None ∷ xs) = omega (arith, length-holders (from + 1) xs, sum_by-cons one_if_held None xs)
length-holders from (Some line ∷ xs) = omega (arith, length-holders (from + 1) xs, sum_by-cons one_if_held (Some line) xs)

-- where each held node is among some numbers, no more are held
pub held_among : (lines : List (Option ℕ)) (some : List ℕ) → ((k : ℕ) → is_held lines k ≡ true → IsAmong k some) → held_count lines ≤ length some
held_among lines some each =
    let same : (k : ℕ) → k - 0 ≡ k = λ k. omega arith in
    let among = AllByRecursion-weaker (IsHolder lines 0) (λ k. AnyByRecursion (λ y. k ≡ y) some)
    (λ k is. any_of (λ y. k ≡ y) k some (each k (sym (ap (is_held lines) (same k)) ∙ is.held)) refl) (holders 0 lines) (are_holders 0 lines) in
    let few = no_more (λ (x y : ℕ). x ≡ y) (λ x y e. sym e) (λ x y z e f. e ∙ f) (holders 0 lines) some
    (AreDifferent-rising (holders 0 lines) (rising_holders 0 lines)) among in
    omega (arith, few, length-holders 0 lines)

-- where no node from one on is held, no more are held
pub held_below : (lines : List (Option ℕ)) (n : ℕ) → ((k : ℕ) → n ≤ k → is_held lines k ≡ false) → held_count lines ≤ n
held_below lines n behind =
    let same : (k : ℕ) → k - 0 ≡ k = λ k. omega arith in
    let below = AllByRecursion-weaker (IsHolder lines 0) (λ k. k < n) (λ k is. elim (cases_lt k n) as (λ _. k < n) [
      | inl low ↦ low
      | inr late ↦ absurd (true≢false (sym (sym (ap (is_held lines) (same k)) ∙ is.held) ∙ behind k late))
    ]) (holders 0 lines) (are_holders 0 lines) in
    let above = AllByRecursion-weaker (IsHolder lines 0) (λ k. 0 ≤ k) (λ k is. omega arith) (holders 0 lines) (are_holders 0 lines) in
    omega (arith, rising_few 0 n (holders 0 lines) (rising_holders 0 lines) above below, length-holders 0 lines)
