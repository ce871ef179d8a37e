-- The order of the variables holds each input exactly once.
use Rattle.std.proofs.Common.{◌≡◌, ◌≢◌, ℕ, ◌+◌, ◌-◌, ◌<◌, ◌≤◌, ◌⊎◌, List, [], ◌∷◌, length, sum, refl, sym, ◌∙◌, subst, inl, inr, arith}
use Rattle.std.specs.List.{AllByRecursion, flat_map}
use Rattle.std.proofs.lemmas.Bool.{cases_lt, lt-ltb, le-ltb}
use Rattle.std.proofs.lemmas.List.Sums.{sum_by-cons}
use Rattle.list_facts.specs.Lists.{IsAmong, AnyByRecursion, AreApart, AreDifferent, below}
use Rattle.list_facts.proofs.AllLemmas.{AllByRecursion-weaker}
use Rattle.list_facts.proofs.AmongLemmas.{among_left, among_right, among_append, all_among, all_from_among, any_of}
use Rattle.list_facts.proofs.CountingLemmas.{no_more}
use Rattle.list_facts.proofs.OrderLemmas.{AreDifferent-append, AreDifferent-below, length-below, below_bound, among_below}
use Rattle.revs_tape.specs.VariableOrders.{inputs_at, variable_order, EachInputIsOneVariable}

-- ---- the inputs at a place of each parameter

-- a parameter that has the place, and one that has not
with_place : (place first width : ℕ) (rest : List ℕ) → place < width
    → inputs_at place first (width ∷ rest) ≡ (first + place) ∷ inputs_at place (first + width) rest
with_place place first width rest lt = rw (lt-ltb place width lt) refl

without_place : (place first width : ℕ) (rest : List ℕ) → width ≤ place → inputs_at place first (width ∷ rest) ≡ inputs_at place (first + width) rest
without_place place first width rest le = rw (le-ltb place width le) refl

total : (width : ℕ) (rest : List ℕ) → sum (width ∷ rest) ≡ width + sum rest
total width rest = sum_by-cons (λ (n : ℕ). n) width rest

record IsBetween (first last i : ℕ) : Type 0 where
  low : first ≤ i
  high : i < last

between : (place first : ℕ) (params : List ℕ) → AllByRecursion (IsBetween first (first + sum params)) (inputs_at place first params)
between place first [] = tt
between place first (width ∷ rest) =
    let more : AllByRecursion (IsBetween first (first + sum (width ∷ rest))) (inputs_at place (first + width) rest) =
    AllByRecursion-weaker (IsBetween (first + width) ((first + width) + sum rest)) (IsBetween first (first + sum (width ∷ rest)))
    (λ i b. record { low = omega (arith, b.low); high = omega (arith, b.high, total width rest) }) (inputs_at place (first + width) rest)
    (between place (first + width) rest) in
    elim (cases_lt place width) as (λ _. AllByRecursion (IsBetween first (first + sum (width ∷ rest))) (inputs_at place first (width ∷ rest))) [
      | inl lt ↦ rw (with_place place first width rest lt) (record { low = omega arith; high = omega (arith, lt, total width rest) }, more)
      | inr le ↦ rw (without_place place first width rest le) more
    ]

different_at : (place first : ℕ) (params : List ℕ) → AreDifferent (inputs_at place first params)
different_at place first [] = tt
different_at place first (width ∷ rest) = elim (cases_lt place width) as (λ _. AreDifferent (inputs_at place first (width ∷ rest))) [
  | inl lt ↦ rw (with_place place first width rest lt) (
    AllByRecursion-weaker (IsBetween (first + width) ((first + width) + sum rest)) (λ i. (first + place) ≢ i)
        (λ i b e. absurd (omega (arith, b.low, lt, e))) (inputs_at place (first + width) rest) (between place (first + width) rest),
    different_at place (first + width) rest,
  )
  | inr le ↦ rw (without_place place first width rest le) (different_at place (first + width) rest)
]

-- an input at a place is the first parameter's, or stands behind
split_at : (place first width i : ℕ) (rest : List ℕ) → IsAmong i (inputs_at place first (width ∷ rest))
    → ((place < width) × (i ≡ first + place)) ⊎ IsAmong i (inputs_at place (first + width) rest)
split_at place first width i rest k = elim (cases_lt place width)
    as (λ _. ((place < width) × (i ≡ first + place)) ⊎ IsAmong i (inputs_at place (first + width) rest)) [
      | inl lt ↦ elim (subst (IsAmong i) (with_place place first width rest lt) k)
          as (λ _. ((place < width) × (i ≡ first + place)) ⊎ IsAmong i (inputs_at place (first + width) rest)) [
            | inl e ↦ inl (lt, e)
            | inr later ↦ inr later
          ]
      | inr le ↦ inr (subst (IsAmong i) (without_place place first width rest le) k)
    ]

one_place : (p q first i : ℕ) (params : List ℕ) → IsAmong i (inputs_at p first params) → IsAmong i (inputs_at q first params) → p ≡ q
one_place p q first i [] k l = absurd k
one_place p q first i (width ∷ rest) k l = elim (split_at p first width i rest k) as (λ _. p ≡ q) [
  | inl a ↦ elim (split_at q first width i rest l) as (λ _. p ≡ q) [
    | inl b ↦ omega (arith, a.1, b.1)
    | inr b ↦ let far = all_among (IsBetween (first + width) ((first + width) + sum rest)) (inputs_at q (first + width) rest)
        (between q (first + width) rest) i b in
        absurd (omega (arith, a.0, a.1, far.low))
  ]
  | inr a ↦ let far = all_among (IsBetween (first + width) ((first + width) + sum rest)) (inputs_at p (first + width) rest)
      (between p (first + width) rest) i a in
      elim (split_at q first width i rest l) as (λ _. p ≡ q) [
        | inl b ↦ absurd (omega (arith, b.0, b.1, far.low))
        | inr b ↦ one_place p q (first + width) i rest a b
      ]
]

record IsAtPlace (first i : ℕ) (params : List ℕ) : Type 0 where
  place : ℕ
  inside : place < sum params
  among : IsAmong i (inputs_at place first params)

some_place : (first i : ℕ) (params : List ℕ) → first ≤ i → i < first + sum params → IsAtPlace first i params
some_place first i [] low high = absurd (omega (arith, low, high))
some_place first i (width ∷ rest) low high = elim (cases_lt i (first + width)) as (λ _. IsAtPlace first i (width ∷ rest)) [
  | inl here ↦
      let place : ℕ = i - first in
      let lt : place < width = omega (arith, low, here) in
      let is : i ≡ first + place = omega (arith, low) in
      record { place = place; inside = omega (arith, lt, total width rest); among = rw (with_place place first width rest lt) (inl is) }
  | inr far ↦
      let found = some_place (first + width) i rest far (omega (arith, high, total width rest)) in
      record {
        place = found.place;
        inside = omega (arith, found.inside, total width rest);
        among = elim (cases_lt found.place width) as (λ _. IsAmong i (inputs_at found.place first (width ∷ rest))) [
          | inl lt ↦ rw (with_place found.place first width rest lt) (inr found.among)
          | inr le ↦ rw (without_place found.place first width rest le) found.among
        ];
      }
]

-- ---- lists joined end to end

among_flat : (f : ℕ → List ℕ) (i x : ℕ) (xs : List ℕ) → IsAmong x xs → IsAmong i (f x) → IsAmong i (flat_map f xs)
among_flat f i x [] k given = absurd k
among_flat f i x (y ∷ ys) k given = elim k as (λ _. IsAmong i (flat_map f (y ∷ ys))) [
  | inl e ↦ among_left i (f y) (flat_map f ys) (subst (λ (z : ℕ). IsAmong i (f z)) e given)
  | inr later ↦ among_right i (f y) (flat_map f ys) (among_flat f i x ys later given)
]

record ComesFrom (f : ℕ → List ℕ) (i : ℕ) (xs : List ℕ) : Type 0 where
  source : ℕ
  among : IsAmong source xs
  given : IsAmong i (f source)

flat_source : (f : ℕ → List ℕ) (i : ℕ) (xs : List ℕ) → IsAmong i (flat_map f xs) → ComesFrom f i xs
flat_source f i [] k = absurd k
flat_source f i (y ∷ ys) k = elim (among_append i (f y) (flat_map f ys) k) as (λ _. ComesFrom f i (y ∷ ys)) [
  | inl here ↦ record { source = y; among = inl refl; given = here }
  | inr later ↦ let found = flat_source f i ys later in record { source = found.source; among = inr found.among; given = found.given }
]

different_flat : (f : ℕ → List ℕ) → ((x : ℕ) → AreDifferent (f x)) → ((x y i : ℕ) → IsAmong i (f x) → IsAmong i (f y) → x ≡ y)
    → (xs : List ℕ) → AreDifferent xs → AreDifferent (flat_map f xs)
different_flat f each apart [] d = tt
different_flat f each apart (x ∷ xs) d =
    AreDifferent-append (f x) (flat_map f xs) (each x) (different_flat f each apart xs d.1)
    (all_from_among (λ i. AllByRecursion (λ j. i ≢ j) (flat_map f xs)) (f x)
    (λ i here. all_from_among (λ j. i ≢ j) (flat_map f xs) (λ j there e.
    let found = flat_source f j xs there in
    all_among (λ y. x ≢ y) xs d.0 found.source found.among
    (apart x found.source j (subst (λ (z : ℕ). IsAmong z (f x)) e here) found.given))))

-- ---- how many

apart_from_different : (xs : List ℕ) → AreDifferent xs → AreApart (λ (x : ℕ) (y : ℕ). x ≡ y) xs
apart_from_different [] d = tt
apart_from_different (x ∷ xs) d = (d.0, apart_from_different xs d.1)

no_longer : (xs ys : List ℕ) → AreDifferent xs → ((i : ℕ) → IsAmong i xs → IsAmong i ys) → length xs ≤ length ys
no_longer xs ys d within =
    no_more (λ (x : ℕ) (y : ℕ). x ≡ y) (λ x y e. sym e) (λ x y z e f. e ∙ f) xs ys (apart_from_different xs d)
    (all_from_among (λ x. AnyByRecursion (λ y. x ≡ y) ys) xs (λ x k. any_of (λ y. x ≡ y) x ys (within x k) refl))

-- ---- the law

pub is_order : EachInputIsOneVariable
is_order params =
    let n : ℕ = sum params in
    let order : List ℕ = variable_order params in
    let places = below n in
    let at : ℕ → List ℕ = λ place. inputs_at place 0 params in
    let different : AreDifferent order = different_flat at (λ place. different_at place 0 params)
    (λ p q i k l. one_place p q 0 i params k l) places (AreDifferent-below n) in
    let inside : (i : ℕ) → IsAmong i order → i < n = λ i k.
    let found = flat_source at i places k in
    let bounds = all_among (IsBetween 0 (0 + n)) (inputs_at found.source 0 params) (between found.source 0 params) i found.given in
    omega (arith, bounds.high) in
    let all : (i : ℕ) → i < n → IsAmong i order = λ i lt.
    let found = some_place 0 i params (omega arith) (omega (arith, lt)) in
    among_flat at i found.place places (among_below n found.place found.inside) found.among in
    record {
      different = different;
      inputs = all_from_among (λ i. i < n) order inside;
      all = all;
      count =
          let fewer = no_longer order (below n) different (λ i k. among_below n i (inside i k)) in
          let as_many = no_longer (below n) order (AreDifferent-below n) (λ i k. all i (below_bound n i k)) in
          omega (arith, fewer, as_many, length-below n);
    }
