-- The variables of a comparison: the inputs in the order of a program, and then those of lines behind them.
use Rattle.std.proofs.Common.{◌≡◌, ◌≢◌, ℕ, suc, ◌+◌, ◌-◌, ◌<◌, ◌≤◌, inl, inr, List, [], ◌∷◌, ◌++◌, length, map, sum, get_or, slice_get, Some, sym, ap, ap₂, ◌∙◌}
use Rattle.std.proofs.Common.{subst, arith, append_assoc, append-nil, length-append}
use Rattle.std.specs.List.{AllByRecursion}
use Rattle.std.proofs.lemmas.Bool.{cases_lt}
use Rattle.std.proofs.lemmas.List.{get_or-append_right, get_or-map, get_or_append_left, length-map, map-append}
use Rattle.std.proofs.lemmas.Option.{get_or_from_slice_get, slice_get-get_or, slice_get_within}
use Rattle.list_facts.specs.Lists.{IsAmong, AreDifferent, below}
use Rattle.list_facts.proofs.AllLemmas.{AllByRecursion-append, AllByRecursion-map, AllByRecursion-weaker}
use Rattle.list_facts.proofs.AmongLemmas.{all_from_among, among_image, among_left, among_map, among_right}
use Rattle.list_facts.proofs.OrderLemmas.{AreDifferent-append, AreDifferent-below, among_below, below_bound, length-below}
use Rattle.revs_tape.specs.VariableOrders.{IsOrderOf, variable_order}
use Rattle.revs_tape.proofs.VariableOrderLemmas.{is_order}
use Rattle.claim_check.specs.Variables.{AreVariables}
use Rattle.claim_check.proofs.VariableLemmas.{Ordered, at_below}
use Rattle.circuit_verify.specs.Comparisons.{Comparison, inputs_in, order_in, variables_behind, variables_in}

AreDifferent-shifted : (n : ℕ) (xs : List ℕ) → AreDifferent xs → AreDifferent (map (λ k. n + k) xs)
AreDifferent-shifted n [] different = tt
AreDifferent-shifted n (x ∷ xs) different = (
  AllByRecursion-map (λ z. (n + x) ≢ z) (λ k. n + k) xs
      (AllByRecursion-weaker (λ z. x ≢ z) (λ z. (n + x) ≢ (n + z)) (λ z apart same. apart (omega (arith, same))) xs different.0),
  AreDifferent-shifted n xs different.1,
)

-- an order of n numbers, and behind it those from n on
pub longer_order : (n count : ℕ) (order : List ℕ) → IsOrderOf n order → IsOrderOf (n + count) (order ++ map (λ k. n + k) (below count))
longer_order n count order is =
    let more : List ℕ = map (λ k. n + k) (below count) in
    let from : (z : ℕ) → IsAmong z more → (n ≤ z) × (z < n + count) = λ z among.
    let k = among_image (λ k. n + k) z (below count) among in
    let low : k.0 < count = below_bound count k.0 k.1 in
    (omega (arith, k.2), omega (arith, k.2, low)) in
    record {
      different = AreDifferent-append order more is.different (AreDifferent-shifted n (below count) (AreDifferent-below count))
          (AllByRecursion-weaker (λ x. x < n) (λ x. AllByRecursion (λ y. x ≢ y) more)
          (λ x low. all_from_among (λ y. x ≢ y) more (λ y among same. absurd (omega (arith, (from y among).0, low, same)))) order is.inputs);
      inputs = AllByRecursion-append (λ i. i < n + count) order more
          (AllByRecursion-weaker (λ i. i < n) (λ i. i < n + count) (λ i low. omega (arith, low)) order is.inputs)
          (all_from_among (λ i. i < n + count) more (λ i among. (from i among).1));
      all = λ i low. elim (cases_lt i n) as (λ _. IsAmong i (order ++ more)) [
        | inl early ↦ among_left i order more (is.all i early)
        | inr late ↦
            let is_shifted : n + (i - n) ≡ i = omega (arith, late) in
            among_right i order more (subst (λ (z : ℕ). IsAmong z more) is_shifted
            (among_map (λ k. n + k) (i - n) (below count) (among_below count (i - n) (omega (arith, low, late)))))
      ];
      count = length-append order more ∙ omega (arith, is.count, length-map (below count) (λ k. n + k), length-below count);
    }

-- the variables of a comparison are an order of its bits
abbrev pub ordered_in : Comparison → Ordered
ordered_in q = record {
  count = variables_in q;
  order = order_in q;
  is = longer_order (inputs_in q) (variables_behind q) (variable_order q.program.params) (is_order q.program.params);
}

-- ---- the variables as a table

at_shifted : (n count k : ℕ) → k < count → get_or (map (λ i. n + i) (below count)) k 0 ≡ n + k
at_shifted n count k low = get_or-map (λ i. n + i) (below count) k 0 0 (omega (arith, low, length-below count)) ∙ ap (λ i. n + i) (at_below count k low)

-- the variables of n inputs, and behind them those of other lines
pub longer_variables : (n count : ℕ) (order variables : List ℕ) → IsOrderOf n order → AreVariables n order variables
    → AreVariables (n + count) (order ++ map (λ k. n + k) (below count)) (variables ++ map (λ k. n + k) (below count))
longer_variables n count order variables is are =
    let more : List ℕ = map (λ k. n + k) (below count) in
    let more_size : length more ≡ count = length-map (below count) (λ k. n + k) ∙ length-below count in
    let long : length (order ++ more) ≡ n + count = length-append order more ∙ omega (arith, is.count, more_size) in
    let there : (p i : ℕ) → p < n + count → get_or (order ++ more) p 0 ≡ i → slice_get (order ++ more) p ≡ Some i = λ p i low at.
    slice_get-get_or (order ++ more) p 0 (omega (arith, low, long)) ∙ ap Some at in
    record {
      size = length-append variables more ∙ omega (arith, are.size, more_size);
      at = λ i low. elim (cases_lt i n) as (λ _. slice_get (order ++ more) (get_or (variables ++ more) i 0) ≡ Some i) [
        | inl early ↦
            let p : ℕ = get_or variables i 0 in
            let own : get_or (variables ++ more) i 0 ≡ p = get_or_append_left variables more 0 i (omega (arith, early, are.size)) in
            let within : p < length order = slice_get_within order p i (are.at i early) in
            ap (slice_get (order ++ more)) own
            ∙ there p i (omega (arith, within, is.count))
            (get_or_append_left order more 0 p within ∙ get_or_from_slice_get order p i 0 (are.at i early))
        | inr late ↦
            let k : ℕ = i - n in
            let same : n + k ≡ i = omega (arith, late) in
            let few : k < count = omega (arith, low, late) in
            let own : get_or (variables ++ more) i 0 ≡ i =
            get_or-append_right variables more n i 0 are.size late ∙ at_shifted n count k few ∙ same in
            ap (slice_get (order ++ more)) own
            ∙ there i i low (get_or-append_right order more n i 0 is.count late ∙ at_shifted n count k few ∙ same)
      ];
    }

pub below_more : (n k : ℕ) (xs : List ℕ) → (xs ++ map (λ i. n + i) (below k)) ++ (n + k) ∷ [] ≡ xs ++ map (λ i. n + i) (below (suc k))
below_more n k xs =
    append_assoc xs (map (λ i. n + i) (below k)) ((n + k) ∷ []) ∙ ap (λ ys. xs ++ ys) (sym (map-append (λ i. n + i) (below k) (k ∷ [])))

-- the next line
pub variable_more : (xs all : List ℕ) (n v : ℕ) → n ≤ v → all ≡ xs ++ map (λ i. n + i) (below (v - n))
    → all ++ v ∷ [] ≡ xs ++ map (λ i. n + i) (below ((v + 1) - n))
variable_more xs all n v low is =
    let k : ℕ = v - n in
    let here : n + k ≡ v = omega (arith, low) in
    let next : suc k ≡ (v + 1) - n = omega (arith, low) in
    ap₂ (λ (ys : List ℕ) (z : ℕ). ys ++ z ∷ []) is (sym here) ∙ below_more n k xs ∙ ap (λ m. xs ++ map (λ i. n + i) (below m)) next

-- before the first one
pub variables_none : (xs : List ℕ) (n : ℕ) → xs ≡ xs ++ map (λ i. n + i) (below (n - n))
variables_none xs n = let none : n - n ≡ 0 = omega arith in sym (ap (λ m. xs ++ map (λ i. n + i) (below m)) none ∙ append-nil xs)

-- all of them
pub variables_are : (params : List ℕ) (n count v : ℕ) (xs all : List ℕ) → n ≡ sum params → v ≡ n + count
    → AreVariables (sum params) (variable_order params) xs → all ≡ xs ++ map (λ i. n + i) (below (v - n))
    → AreVariables (sum params + count) (variable_order params ++ map (λ k. sum params + k) (below count)) all
variables_are params n count v xs all is_sum is_end are is =
    let k : v - n ≡ count = omega (arith, is_end) in
    let whole : all ≡ xs ++ map (λ i. sum params + i) (below count) =
    is ∙ ap₂ (λ (m j : ℕ). xs ++ map (λ i. m + i) (below j)) is_sum k in
    subst (AreVariables (sum params + count) (variable_order params ++ map (λ k. sum params + k) (below count))) (sym whole)
    (longer_variables (sum params) count (variable_order params) xs (is_order params) are)
