-- The order of the variables as a table, and the place of each input in it.
use Rattle.std.proofs.Common.{◌≡◌, ◌≢◌, ℕ, zero, suc, ◌+◌, ◌-◌, ◌<◌, ◌≤◌, inl, inr, List, [], ◌∷◌, ◌++◌, length, get_or, set, sum, slice_get, Some, refl, sym}
use Rattle.std.proofs.Common.{Bool, true, false, cond, nat_lt, drop}
use Rattle.std.proofs.Common.{ap}
use Rattle.std.proofs.Common.{◌∙◌, append-nil, subst, arith}
use Rattle.std.specs.List.{AllByRecursion, flat_map}
use Rattle.std.proofs.lemmas.Bool.{cases_eq, cases_lt, le-ltb}
use Rattle.std.proofs.lemmas.Grind.{flat_map-append}
use Rattle.std.proofs.lemmas.List.{append_assoc, drop_more, get_or-set_same, get_or-set_other}
use Rattle.std.proofs.lemmas.List.Sums.{sum_by-cons}
use Rattle.std.proofs.lemmas.Option.{slice_get-get_or}
use Rattle.list_facts.specs.Lists.{IsAmong, AreDifferent, below}
use Rattle.dependency_graph.proofs.TableLemmas.{below_next}
use Rattle.list_facts.proofs.AllLemmas.{AllByRecursion-at}
use Rattle.revs_tape.specs.VariableOrders.{IsOrderOf, inputs_at, variable_order}
use Rattle.claim_check.specs.Variables.{AreVariables}

-- ---- the places past the widest parameter

-- no parameter has a place that is past them all
no_inputs : (place first : ℕ) (params : List ℕ) → ((k : ℕ) → k < length params → get_or params k 0 ≤ place) → inputs_at place first params ≡ []
no_inputs place first [] narrow = refl
no_inputs place first (width ∷ rest) narrow =
    let past : width ≤ place = narrow 0 (omega arith) in
    rw (le-ltb place width past) (no_inputs place (first + width) rest (λ k low. narrow (suc k) (omega (arith, low))))

one_width : (params : List ℕ) (k : ℕ) → k < length params → get_or params k 0 ≤ sum params
one_width [] k low = absurd (omega (arith, low))
one_width (width ∷ rest) zero low = omega (arith, sum_by-cons (λ (n : ℕ). n) width rest)
one_width (width ∷ rest) (suc k) low = omega (arith, sum_by-cons (λ (n : ℕ). n) width rest, one_width rest k (omega (arith, low)))

nothing_more : (f : ℕ → List ℕ) (n k : ℕ) → ((p : ℕ) → n ≤ p → f p ≡ []) → flat_map f (below (k + n)) ≡ flat_map f (below n)
nothing_more f n zero none = let e : 0 + n ≡ n = omega arith in ap (λ (m : ℕ). flat_map f (below m)) e
nothing_more f n (suc k) none =
    let e : suc k + n ≡ suc (k + n) = omega arith in
    ap (λ (m : ℕ). flat_map f (below m)) e
    ∙ flat_map-append f (below (k + n)) ((k + n) ∷ [])
    ∙ ap (λ (z : List ℕ). flat_map f (below (k + n)) ++ (z ++ [])) (none (k + n) (omega arith))
    ∙ append-nil (flat_map f (below (k + n)))
    ∙ nothing_more f n k none

same_places : (f : ℕ → List ℕ) (n m : ℕ) → ((p : ℕ) → n ≤ p → f p ≡ []) → ((p : ℕ) → m ≤ p → f p ≡ []) → flat_map f (below n) ≡ flat_map f (below m)
same_places f n m past_n past_m = elim (cases_lt n m) as (λ _. flat_map f (below n) ≡ flat_map f (below m)) [
  | inl lt ↦ let e : (m - n) + n ≡ m = omega (arith, lt) in
      sym (nothing_more f n (m - n) past_n) ∙ ap (λ (k : ℕ). flat_map f (below k)) e
  | inr le ↦ let e : (n - m) + m ≡ n = omega (arith, le) in
      ap (λ (k : ℕ). flat_map f (below k)) (sym e) ∙ nothing_more f m (n - m) past_m
]

pub order_is : (params : List ℕ) (widest : ℕ) → ((k : ℕ) → k < length params → get_or params k 0 ≤ widest)
    → flat_map (λ place. inputs_at place 0 params) (below widest) ≡ variable_order params
order_is params widest narrow =
    same_places (λ place. inputs_at place 0 params) widest (sum params)
    (λ p past. no_inputs p 0 params (λ k low. omega (arith, past, narrow k low)))
    (λ p past. no_inputs p 0 params (λ k low. omega (arith, past, one_width params k low)))

-- the inputs at one more place
pub order_more : (params so_far now : List ℕ) (place : ℕ) → now ≡ so_far ++ inputs_at place 0 params
    → so_far ≡ flat_map (λ p. inputs_at p 0 params) (below place) → now ≡ flat_map (λ p. inputs_at p 0 params) (below (place + 1))
order_more params so_far now place pushed is =
    let at : ℕ → List ℕ = λ p. inputs_at p 0 params in
    pushed ∙ ap (λ (z : List ℕ). z ++ at place) is
    ∙ sym (ap (flat_map at) (below_next place) ∙ flat_map-append at (below place) (place ∷ [])
    ∙ ap (λ (z : List ℕ). flat_map at (below place) ++ z) (append-nil (at place)))

-- ---- one more parameter

pub sum_next : (params : List ℕ) (k : ℕ) → k < length params → sum (drop k params) ≡ get_or params k 0 + sum (drop (k + 1) params)
sum_next params k inside = ap sum (drop_more params k 0 inside) ∙ sum_by-cons (λ (n : ℕ). n) (get_or params k 0) (drop (k + 1) params)

inputs_next : (params : List ℕ) (place first k : ℕ) (here : List ℕ) → k < length params
    → cond (nat_lt place (get_or params k 0)) ((first + place) ∷ []) [] ≡ here
    → inputs_at place first (drop k params) ≡ here ++ inputs_at place (first + get_or params k 0) (drop (k + 1) params)
inputs_next params place first k here inside is =
    let later = inputs_at place (first + get_or params k 0) (drop (k + 1) params) in
    ap (inputs_at place first) (drop_more params k 0 inside) ∙ by (nat_lt place (get_or params k 0)) later ∙ ap (λ (z : List ℕ). z ++ later) is
  where
    by : (t : Bool) (later : List ℕ) → cond t ((first + place) ∷ later) later ≡ cond t ((first + place) ∷ []) [] ++ later
    by true later = refl
    by false later = refl

-- what a parameter gives was put behind the others
pub inputs_more : (params so_far now all : List ℕ) (place first k : ℕ) (here : List ℕ) → k < length params
    → cond (nat_lt place (get_or params k 0)) ((first + place) ∷ []) [] ≡ here → now ≡ so_far ++ here → so_far ++ inputs_at place first (drop k params) ≡ all
    → now ++ inputs_at place (first + get_or params k 0) (drop (k + 1) params) ≡ all
inputs_more params so_far now all place first k here inside gives is before =
    let later = inputs_at place (first + get_or params k 0) (drop (k + 1) params) in
    ap (λ (z : List ℕ). z ++ later) is ∙ append_assoc so_far here later
    ∙ sym (ap (λ (z : List ℕ). so_far ++ z) (inputs_next params place first k here inside gives)) ∙ before

-- ---- the table of places

different_after : (x : ℕ) (xs : List ℕ) (k : ℕ) → AllByRecursion (λ y. x ≢ y) xs → k < length xs → x ≢ get_or xs k 0
different_after x xs k all low = AllByRecursion-at (λ y. x ≢ y) xs k 0 all low

pub different_at : (xs : List ℕ) (i j : ℕ) → AreDifferent xs → i < j → j < length xs → get_or xs i 0 ≢ get_or xs j 0
different_at [] i j all less low = absurd (omega (arith, low))
different_at (x ∷ xs) i zero all less low = absurd (omega (arith, less))
different_at (x ∷ xs) zero (suc j) all less low = different_after x xs j all.0 (omega (arith, low))
different_at (x ∷ xs) (suc i) (suc j) all less low = different_at xs i j all.1 (omega (arith, less)) (omega (arith, low))

pub place_written : (order places : List ℕ) (place : ℕ) → IsOrderOf (length order) order → length places ≡ length order → place < length order
    → ((k : ℕ) → k < place → get_or places (get_or order k 0) 0 ≡ k)
    → (k : ℕ) → k < place + 1 → get_or (set places (get_or order place 0) place) (get_or order k 0) 0 ≡ k
place_written order places place is size low before k less =
    let here : get_or order place 0 < length places =
    omega (arith, size, AllByRecursion-at (λ i. i < length order) order place 0 is.inputs low) in
    elim (cases_eq k place) as (λ _. get_or (set places (get_or order place 0) place) (get_or order k 0) 0 ≡ k) [
      | inl e ↦ subst (λ (m : ℕ). get_or (set places (get_or order place 0) place) (get_or order m 0) 0 ≡ m) (sym e)
          (get_or-set_same places (get_or order place 0) place 0 here)
      | inr apart ↦
          let earlier : k < place = omega (arith, less, apart) in
          get_or-set_other places (get_or order place 0) (get_or order k 0) place 0 (different_at order k place is.different earlier low) ∙ before k earlier
    ]

record StandsAt (i : ℕ) (xs : List ℕ) : Type 0 where
  place : ℕ
  low : place < length xs
  is : get_or xs place 0 ≡ i

some_place : (i : ℕ) (xs : List ℕ) → IsAmong i xs → StandsAt i xs
some_place i [] k = absurd k
some_place i (x ∷ xs) k = elim k as (λ _. StandsAt i (x ∷ xs)) [
  | inl e ↦ record { place = 0; low = omega arith; is = sym e }
  | inr later ↦ let found = some_place i xs later in record { place = suc found.place; low = omega (arith, found.low); is = found.is }
]

pub places_are : (order places : List ℕ) → IsOrderOf (length order) order → length places ≡ length order
    → ((k : ℕ) → k < length order → get_or places (get_or order k 0) 0 ≡ k) → AreVariables (length order) order places
places_are order places is size each = record {
  size = size;
  at = λ i low.
      let found = some_place i order (is.all i low) in
      let own : get_or places i 0 ≡ found.place = ap (λ (z : ℕ). get_or places z 0) (sym found.is) ∙ each found.place found.low in
      ap (slice_get order) own ∙ slice_get-get_or order found.place 0 found.low ∙ ap Some found.is;
}

pub variables_are : (params order variables : List ℕ) → order ≡ variable_order params → IsOrderOf (sum params) (variable_order params)
    → AreVariables (length order) order variables → AreVariables (sum params) (variable_order params) variables
variables_are params order variables same is are =
    let size : length order ≡ sum params = ap length same ∙ is.count in
    subst (λ (z : List ℕ). AreVariables (sum params) z variables) same (subst (λ (n : ℕ). AreVariables n order variables) size are)

pub order_of_list : (params order : List ℕ) → order ≡ variable_order params → IsOrderOf (sum params) (variable_order params)
    → IsOrderOf (length order) order
order_of_list params order same is =
    let size : sum params ≡ length order = sym (ap length same ∙ is.count) in
    subst (λ (n : ℕ). IsOrderOf n order) size (subst (IsOrderOf (sum params)) (sym same) is)
