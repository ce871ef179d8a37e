-- The peak is the greatest number of lines that were out at one time.
use Rattle.std.proofs.Common.{◌≡◌, ℕ, zero, suc, ◌+◌, ◌<◌, ◌≤◌, max, true, false, eqb, List, [], ◌∷◌, length, sym, ap, ◌∙◌, inl, inr, arith}
use Rattle.std.specs.List.{AllByRecursion}
use Rattle.std.proofs.lemmas.Bool.{cases_Bool, eqb-true, eqb-false, ne_eqb, true≢false}
use Rattle.list_facts.specs.Lists.{IsRising}
use Rattle.list_facts.proofs.AllLemmas.{AllByRecursion-weaker, AllByRecursion-always}
use Rattle.held_nodes.specs.inside.Lines.{HeapView, IsLineHeap, IsLeastFree, contains, with_taken}
use Rattle.held_nodes.proofs.OutLineLemmas.{contains_above, length-with_line}

-- rising numbers from one bound up to another are at most as many as lie between
few_between : (low high : ℕ) (xs : List ℕ) → IsRising xs → AllByRecursion (λ x. low ≤ x) xs → AllByRecursion (λ x. x < high) xs → length xs + low ≤ max low high
few_between low high [] up from below = omega arith
few_between low high (x ∷ xs) up from below =
    let behind : AllByRecursion (λ y. x + 1 ≤ y) xs = AllByRecursion-weaker (λ y. x < y) (λ y. x + 1 ≤ y) (λ y lt. omega (arith, lt)) xs up.0 in
    let rest : length xs + (x + 1) ≤ max (x + 1) high = few_between (x + 1) high xs up.1 behind below.1 in
    omega (arith, rest, from.0, below.0)

-- rising numbers that hold so many from a bound on are at least as many
many_from : (low count : ℕ) (xs : List ℕ) → IsRising xs → AllByRecursion (λ x. low ≤ x) xs → ((k : ℕ) → low ≤ k → k < low + count → contains xs k ≡ true)
    → count ≤ length xs
many_from low zero xs up from holds = omega arith
many_from low (suc count) [] up from holds = absurd (true≢false (sym (holds low (omega arith) (omega arith))))
many_from low (suc count) (x ∷ xs) up from holds =
    elim (cases_Bool (eqb x low)) as (λ _. suc count ≤ length (x ∷ xs)) [
      | inl e ↦
          let same : x ≡ low = eqb-true x low e in
          let behind : AllByRecursion (λ y. low + 1 ≤ y) xs = AllByRecursion-weaker (λ y. x < y) (λ y. low + 1 ≤ y) (λ y lt. omega (arith, lt, same)) xs up.0 in
          let rest : count ≤ length xs = many_from (low + 1) count xs up.1 behind (λ k l h.
          let other : eqb x k ≡ false = ne_eqb x k (λ i. absurd (omega (arith, i, same, l))) in
          let here : contains (x ∷ xs) k ≡ true = holds k (omega (arith, l)) (omega (arith, h)) in
          rw other at here) in
          omega (arith, rest)
      | inr n ↦
          let apart = eqb-false x low n in
          let above : low < x = let ne : (x ≡ low → ⊥) = apart in omega (arith, from.0) in
          let none = contains_above low (x ∷ xs) (above, AllByRecursion-weaker (λ y. x < y) (λ y. low < y) (λ y lt. omega (arith, lt, above)) xs up.0) in
          absurd (true≢false (sym (holds low (omega arith) (omega arith)) ∙ none))
    ]

-- once the least free line is out, the peak is the greater of the old peak and the number out
pub peak_taken : (old new : HeapView) (line : ℕ) → IsLineHeap old → IsLineHeap new → IsLeastFree old line → new ≡ with_taken old line
    → new.peak ≡ max old.peak (length new.out)
peak_taken old new line before now least e =
    let peak : new.peak ≡ max old.peak (line + 1) = ap (λ (h : HeapView). h.peak) e in
    let count : length new.out ≡ suc (length old.out) = ap (λ (h : HeapView). length h.out) e ∙ length-with_line old.out line in
    let few : length new.out + 0 ≤ max 0 new.peak =
    few_between 0 new.peak new.out now.rising (AllByRecursion-always (λ x. 0 ≤ x) (λ x. omega arith) new.out) now.below_peak in
    let many : line ≤ length old.out =
    many_from 0 line old.out before.rising (AllByRecursion-always (λ x. 0 ≤ x) (λ x. omega arith) old.out) (λ k l h. least.least k (omega (arith, h))) in
    omega (arith, peak, count, few, many)
