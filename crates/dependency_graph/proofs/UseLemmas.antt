-- Last uses, and what they say of cuts.
use Rattle.std.proofs.Common.{◌≡◌, ◌≢◌, ℕ, zero, suc, ◌+◌, ◌<◌, ◌≤◌, Bool, true, false, cond, ◌||◌, ◌⊎◌, inl, inr, List, [], ◌∷◌, ◌++◌, length}
use Rattle.std.proofs.Common.{drop, filter, get_or, refl, sym, ap, ◌∙◌, subst, arith}
use Rattle.std.specs.List.{AllByRecursion, list_any}
use Rattle.std.proofs.lemmas.Bool.{cases_Bool, cases_eq}
use Rattle.list_facts.specs.Lists.{IsAmong, IsRising, below}
use Rattle.list_facts.proofs.AllLemmas.{AllByRecursion-push}
use Rattle.list_facts.proofs.AmongLemmas.{all_from_among}
use Rattle.list_facts.proofs.OrderLemmas.{IsRising-filter, among_below, below_bound}
use Rattle.revs_tape.specs.Cuts.{is_in, is_needed, cut_at}
use Rattle.dependency_graph.specs.Uses.{last_of, last_use, LastUsesTellCuts}

-- ---- the last reader so far

abbrev pub reads : List (List ℕ) → ℕ → ℕ → Bool
reads steps i k = is_in (get_or steps k []) i

-- the last of the first p steps that has i as an operand, else i
abbrev pub last_before : List (List ℕ) → ℕ → ℕ → ℕ
last_before steps p i = last_of i (filter (reads steps i) (below p))

last_push : (d : ℕ) (xs : List ℕ) (x : ℕ) → last_of d (xs ++ x ∷ []) ≡ x
last_push d [] x = refl
last_push d (y ∷ ys) x = last_push y ys x

pub filter_push : (test : ℕ → Bool) (xs : List ℕ) (x : ℕ) → filter test (xs ++ x ∷ []) ≡ cond (test x) (filter test xs ++ x ∷ []) (filter test xs)
filter_push test [] x = elim (cases_Bool (test x)) [ inl e ↦ rw e refl | inr e ↦ rw e refl ]
filter_push test (y ∷ ys) x = elim (cases_Bool (test y)) [
  | inl e ↦ elim (cases_Bool (test x)) [
    | inl f ↦ rw (e, f) (ap (λ (z : List ℕ). y ∷ z) (filter_push test ys x ∙ rw f refl))
    | inr f ↦ rw (e, f) (ap (λ (z : List ℕ). y ∷ z) (filter_push test ys x ∙ rw f refl))
  ]
  | inr e ↦ rw e (filter_push test ys x)
]

pub last_more : (steps : List (List ℕ)) (p i : ℕ) → last_before steps (suc p) i ≡ cond (reads steps i p) p (last_before steps p i)
last_more steps p i =
    ap (λ (z : List ℕ). last_of i z) (filter_push (reads steps i) (below p) p)
    ∙ elim (cases_Bool (reads steps i p)) as (λ _.
    last_of i (cond (reads steps i p) (filter (reads steps i) (below p) ++ p ∷ []) (filter (reads steps i) (below p)))
    ≡ cond (reads steps i p) p (last_before steps p i)) [
      | inl e ↦ rw e (last_push i (filter (reads steps i) (below p)) p)
      | inr e ↦ rw e refl
    ]

-- ---- it is the greatest

greatest : (steps : List (List ℕ)) (p i k : ℕ) → k < p → reads steps i k ≡ true → k ≤ last_before steps p i
greatest steps zero i k low is = absurd (omega (arith, low))
greatest steps (suc p) i k low is =
    elim (cases_Bool (reads steps i p)) as (λ _. k ≤ last_before steps (suc p) i) [
      | inl e ↦ let here : last_before steps (suc p) i ≡ p = last_more steps p i ∙ rw e refl in omega (arith, here, low)
      | inr e ↦
          let here : last_before steps (suc p) i ≡ last_before steps p i = last_more steps p i ∙ rw e refl in
          elim (cases_eq k p) as (λ _. k ≤ last_before steps (suc p) i) [
            | inl same ↦ let clash : true ≡ false = sym is ∙ ap (reads steps i) same ∙ e in cc
            | inr ne ↦ let other : k ≢ p = ne in omega (arith, here, greatest steps p i k (omega (arith, low)) is)
          ]
    ]

record IsReader (steps : List (List ℕ)) (p i k : ℕ) : Type 0 where
  low : k < p
  is : reads steps i k ≡ true

attained : (steps : List (List ℕ)) (p i : ℕ) → (last_before steps p i ≡ i) ⊎ IsReader steps p i (last_before steps p i)
attained steps zero i = inl refl
attained steps (suc p) i =
    elim (cases_Bool (reads steps i p)) as (λ _. (last_before steps (suc p) i ≡ i) ⊎ IsReader steps (suc p) i (last_before steps (suc p) i)) [
      | inl e ↦ let here : last_before steps (suc p) i ≡ p = last_more steps p i ∙ rw e refl in
          inr (subst (IsReader steps (suc p) i) (sym here) (record { low = omega arith; is = e }))
      | inr e ↦
          let here : last_before steps p i ≡ last_before steps (suc p) i = sym (last_more steps p i ∙ rw e refl) in
          elim (attained steps p i) as (λ _. (last_before steps (suc p) i ≡ i) ⊎ IsReader steps (suc p) i (last_before steps (suc p) i)) [
            | inl none ↦ inl (sym here ∙ none)
            | inr found ↦ inr (subst (IsReader steps (suc p) i) here (record { low = omega (arith, found.low); is = found.is }))
          ]
    ]

-- ---- steps from a place on

pub some_from : (steps : List (List ℕ)) (i j k : ℕ) → j ≤ k → k < length steps → reads steps i k ≡ true
    → list_any (λ operands. is_in operands i) (drop j steps) ≡ true
some_from [] i j k above low is = absurd (omega (arith, low))
some_from (s ∷ steps) i zero zero above low is = rw is refl
some_from (s ∷ steps) i zero (suc k) above low is = elim (cases_Bool (is_in s i)) [
  | inl e ↦ rw e refl
  | inr e ↦ rw e (some_from steps i zero k (omega arith) (omega (arith, low)) is)
]
some_from (s ∷ steps) i (suc j) zero above low is = absurd (omega (arith, above))
some_from (s ∷ steps) i (suc j) (suc k) above low is = some_from steps i j k (omega (arith, above)) (omega (arith, low)) is

record Later (steps : List (List ℕ)) (i j : ℕ) : Type 0 where
  at : ℕ
  above : j ≤ at
  low : at < length steps
  is : reads steps i at ≡ true

later_step : (s : List ℕ) (steps : List (List ℕ)) (i j l : ℕ) → Later steps i j → l ≤ j + 1 → Later (s ∷ steps) i l
later_step s steps i j l found le = record {
  at = suc found.at;
  above = omega (arith, found.above, le);
  low = omega (arith, found.low);
  is = found.is;
}

from_some : (steps : List (List ℕ)) (i j : ℕ) → list_any (λ operands. is_in operands i) (drop j steps) ≡ true → Later steps i j
from_some [] i zero some = cc
from_some [] i (suc j) some = cc
from_some (s ∷ steps) i zero some = elim (cases_Bool (is_in s i)) as (λ _. Later (s ∷ steps) i 0) [
  | inl e ↦ record { at = 0; above = omega arith; low = omega arith; is = e }
  | inr e ↦ later_step s steps i 0 0 (from_some steps i 0 (sym (rw e refl) ∙ some)) (omega arith)
]
from_some (s ∷ steps) i (suc j) some = later_step s steps i j (suc j) (from_some steps i j some) (omega arith)

-- ---- the law

pub or_left : (a b : Bool) → a ≡ true → (a || b) ≡ true
or_left a b e = rw e refl

pub or_right : (a b : Bool) → b ≡ true → (a || b) ≡ true
or_right true b e = refl
or_right false b e = e

pub needed_later : (steps : List (List ℕ)) (outputs : List ℕ) (i j : ℕ) → j ≤ length steps → is_needed steps outputs j i ≡ true
    → j ≤ last_use steps outputs i
needed_later steps outputs i j inside needed =
    elim (cases_Bool (is_in outputs i)) as (λ _. j ≤ last_use steps outputs i) [
      | inl e ↦ let whole : last_use steps outputs i ≡ length steps = rw e refl in omega (arith, whole, inside)
      | inr e ↦
          let inner : last_use steps outputs i ≡ last_before steps (length steps) i = rw e refl in
          let some : list_any (λ operands. is_in operands i) (drop j steps) ≡ true = sym (rw e refl) ∙ needed in
          let found = from_some steps i j some in
          omega (arith, inner, found.above, greatest steps (length steps) i found.at found.low found.is)
    ]

pub later_needed : (steps : List (List ℕ)) (outputs : List ℕ) (i j : ℕ) → i < j → j ≤ last_use steps outputs i
    → is_needed steps outputs j i ≡ true
later_needed steps outputs i j low later =
    elim (cases_Bool (is_in outputs i)) as (λ _. is_needed steps outputs j i ≡ true) [
      | inl e ↦ or_left (is_in outputs i) (list_any (λ operands. is_in operands i) (drop j steps)) e
      | inr e ↦
          let inner : last_use steps outputs i ≡ last_before steps (length steps) i = rw e refl in
          or_right (is_in outputs i) (list_any (λ operands. is_in operands i) (drop j steps))
          (elim (attained steps (length steps) i) as (λ _. list_any (λ operands. is_in operands i) (drop j steps) ≡ true) [
            | inl none ↦ absurd (omega (arith, none, inner, low, later))
            | inr found ↦ some_from steps i j (last_before steps (length steps) i) (omega (arith, inner, later)) found.low found.is
          ])
    ]

-- ---- cuts by last uses

IsRising-push : (xs : List ℕ) (x : ℕ) → IsRising xs → AllByRecursion (λ y. y < x) xs → IsRising (xs ++ x ∷ [])
IsRising-push [] x up lower = (tt, tt)
IsRising-push (y ∷ ys) x up lower = (AllByRecursion-push (λ z. y < z) ys x up.0 lower.0, IsRising-push ys x up.1 lower.1)

pub IsRising-below : (n : ℕ) → IsRising (below n)
IsRising-below zero = tt
IsRising-below (suc n) = IsRising-push (below n) n (IsRising-below n) (all_from_among (λ y. y < n) (below n) (below_bound n))

pub rising_cut : (steps : List (List ℕ)) (outputs : List ℕ) (j : ℕ) → IsRising (cut_at steps outputs j)
rising_cut steps outputs j = IsRising-filter (is_needed steps outputs j) (below j) (IsRising-below j)

pub among_filter : (test : ℕ → Bool) (x : ℕ) (xs : List ℕ) → IsAmong x xs → test x ≡ true → IsAmong x (filter test xs)
among_filter test x [] k is = absurd k
among_filter test x (y ∷ ys) k is = elim k as (λ _. IsAmong x (filter test (y ∷ ys))) [
  | inl e ↦ let here : test y ≡ true = sym (ap test e) ∙ is in rw here (inl e)
  | inr later ↦ elim (cases_Bool (test y)) as (λ _. IsAmong x (filter test (y ∷ ys))) [
    | inl e ↦ rw e (inr (among_filter test x ys later is))
    | inr e ↦ rw e (among_filter test x ys later is)
  ]
]

passes_step : (test : ℕ → Bool) (x y : ℕ) (zs : List ℕ) (b : Bool) → test y ≡ b → (IsAmong x zs → test x ≡ true)
    → IsAmong x (cond b (y ∷ zs) zs) → test x ≡ true
passes_step test x y zs true e later k = elim k as (λ _. test x ≡ true) [ inl same ↦ ap test same ∙ e | inr there ↦ later there ]
passes_step test x y zs false e later k = later k

pub filter_passes : (test : ℕ → Bool) (x : ℕ) (xs : List ℕ) → IsAmong x (filter test xs) → test x ≡ true
filter_passes test x [] k = absurd k
filter_passes test x (y ∷ ys) k = passes_step test x y (filter test ys) (test y) refl (λ later. filter_passes test x ys later) k

pub last_uses_tell_cuts : LastUsesTellCuts
last_uses_tell_cuts steps outputs i j low inside = (
  λ k. needed_later steps outputs i j inside (filter_passes (is_needed steps outputs j) i (below j) k),
  λ later. among_filter (is_needed steps outputs j) i (below j) (among_below j i low) (later_needed steps outputs i j low later),
)
