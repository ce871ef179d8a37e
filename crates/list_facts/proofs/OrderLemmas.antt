-- Rising and different numbers, and the numbers below a bound.
use Rattle.std.proofs.Common.{◌≡◌, ◌≢◌, ℕ, zero, suc, ◌+◌, ◌<◌, Bool, List, [], ◌∷◌, ◌++◌, length, take, reverse, filter, refl, sym, ◌∙◌, subst, inl, inr}
use Rattle.std.proofs.Common.{arith}
use Rattle.std.specs.List.{AllByRecursion, range_with_len}
use Rattle.std.proofs.lemmas.Bool.{cases_Bool, cases_eq}
use Rattle.std.proofs.lemmas.List.{reverse-append, length_push}
use Rattle.list_facts.specs.Lists.{IsAmong, IsRising, AreDifferent, RisingAreDifferent, below}
use Rattle.list_facts.proofs.AllLemmas.{AllByRecursion-weaker, AllByRecursion-append, AllByRecursion-left, AllByRecursion-right, AllByRecursion-push}
use Rattle.list_facts.proofs.AllLemmas.{AllByRecursion-reverse, AllByRecursion-take, AllByRecursion-filter}
use Rattle.list_facts.proofs.AmongLemmas.{among_left, among_right, among_append, all_from_among}

-- ---- rising

pub IsRising-filter : (test : ℕ → Bool) (xs : List ℕ) → IsRising xs → IsRising (filter test xs)
IsRising-filter test [] up = tt
IsRising-filter test (x ∷ xs) up =
    elim (cases_Bool (test x)) [
      | inl e ↦ rw e (AllByRecursion-filter (λ y. x < y) test xs up.0, IsRising-filter test xs up.1)
      | inr e ↦ rw e (IsRising-filter test xs up.1)
    ]

pub range_above : (a b n : ℕ) → a < b → AllByRecursion (λ y. a < y) (range_with_len b n)
range_above a b zero lt = tt
range_above a b (suc n) lt = (lt, range_above a (b + 1) n (omega (arith, lt)))

pub range_below : (a n : ℕ) → AllByRecursion (λ y. y < a + n) (range_with_len a n)
range_below a zero = tt
range_below a (suc n) = (
  omega arith,
  AllByRecursion-weaker (λ y. y < (a + 1) + n) (λ y. y < a + suc n) (λ y lt. omega (arith, lt))
      (range_with_len (a + 1) n) (range_below (a + 1) n),
)

pub IsRising-range : (a n : ℕ) → IsRising (range_with_len a n)
IsRising-range a zero = tt
IsRising-range a (suc n) = (range_above a (a + 1) n (omega arith), IsRising-range (a + 1) n)

-- ---- different

pub AreDifferent-rising : RisingAreDifferent
AreDifferent-rising [] up = tt
AreDifferent-rising (x ∷ xs) up =
    (AllByRecursion-weaker (λ y. x < y) (λ y. x ≢ y) (λ y lt e. absurd (omega (arith, lt, e))) xs up.0, AreDifferent-rising xs up.1)

pub AreDifferent-left : (xs ys : List ℕ) → AreDifferent (xs ++ ys) → AreDifferent xs
AreDifferent-left [] ys d = tt
AreDifferent-left (x ∷ xs) ys d = (AllByRecursion-left (λ y. x ≢ y) xs ys d.0, AreDifferent-left xs ys d.1)

-- each of the first list differs from each of the second, where all of both are different
pub AreDifferent-parts : (xs ys : List ℕ) → AreDifferent (xs ++ ys) → AllByRecursion (λ x. AllByRecursion (λ y. x ≢ y) ys) xs × AreDifferent ys
AreDifferent-parts [] ys d = (tt, d)
AreDifferent-parts (x ∷ xs) ys d = let rest = AreDifferent-parts xs ys d.1 in ((AllByRecursion-right (λ y. x ≢ y) xs ys d.0, rest.0), rest.1)

pub AreDifferent-append : (xs ys : List ℕ) → AreDifferent xs → AreDifferent ys → AllByRecursion (λ x. AllByRecursion (λ y. x ≢ y) ys) xs
    → AreDifferent (xs ++ ys)
AreDifferent-append [] ys d e apart = e
AreDifferent-append (x ∷ xs) ys d e apart =
    (AllByRecursion-append (λ y. x ≢ y) xs ys d.0 apart.0, AreDifferent-append xs ys d.1 e apart.1)

pub AreDifferent-push : (xs : List ℕ) (x : ℕ) → AreDifferent xs → AllByRecursion (λ y. y ≢ x) xs → AreDifferent (xs ++ x ∷ [])
AreDifferent-push [] x d apart = (tt, tt)
AreDifferent-push (y ∷ ys) x d apart = (AllByRecursion-push (λ z. y ≢ z) ys x d.0 apart.0, AreDifferent-push ys x d.1 apart.1)

pub AreDifferent-reverse : (xs : List ℕ) → AreDifferent xs → AreDifferent (reverse xs)
AreDifferent-reverse [] d = tt
AreDifferent-reverse (x ∷ xs) d =
    subst AreDifferent (sym (reverse-append (x ∷ []) xs))
    (AreDifferent-push (reverse xs) x (AreDifferent-reverse xs d.1)
    (AllByRecursion-reverse (λ y. y ≢ x) xs (AllByRecursion-weaker (λ y. x ≢ y) (λ y. y ≢ x) (λ y ne e. ne (sym e)) xs d.0)))

pub AreDifferent-take : (n : ℕ) (xs : List ℕ) → AreDifferent xs → AreDifferent (take n xs)
AreDifferent-take zero xs d = tt
AreDifferent-take (suc n) [] d = tt
AreDifferent-take (suc n) (x ∷ xs) d = (AllByRecursion-take (λ y. x ≢ y) n xs d.0, AreDifferent-take n xs d.1)

-- ---- below a bound

pub length-below : (n : ℕ) → length (below n) ≡ n
length-below zero = refl
length-below (suc n) = length_push (below n) n ∙ omega (arith, length-below n)

pub below_bound : (n i : ℕ) → IsAmong i (below n) → i < n
below_bound zero i k = absurd k
below_bound (suc n) i k = elim (among_append i (below n) (n ∷ []) k) as (λ _. i < suc n) [
  | inl early ↦ omega (arith, below_bound n i early)
  | inr last ↦ elim last as (λ _. i < suc n) [ inl e ↦ omega (arith, e) | inr none ↦ absurd none ]
]

pub among_below : (n i : ℕ) → i < n → IsAmong i (below n)
among_below zero i lt = absurd (omega (arith, lt))
among_below (suc n) i lt = elim (cases_eq i n) as (λ _. IsAmong i (below (suc n))) [
  | inl e ↦ among_right i (below n) (n ∷ []) (inl e)
  | inr ne ↦ among_left i (below n) (n ∷ []) (among_below n i (let other : i ≢ n = ne in omega arith))
]

pub AreDifferent-below : (n : ℕ) → AreDifferent (below n)
AreDifferent-below zero = tt
AreDifferent-below (suc n) =
    AreDifferent-push (below n) n (AreDifferent-below n)
    (all_from_among (λ y. y ≢ n) (below n) (λ y k e. absurd (omega (arith, below_bound n y k, e))))
