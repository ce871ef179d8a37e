-- Rising lists of lines: parts by a test, one line more, one line less.
use Rattle.std.proofs.Common.{◌≡◌, ◌≢◌, ℕ, zero, suc, ◌+◌, ◌<◌, ◌≤◌, Bool, true, false, not, ◌&&◌, ◌||◌, eqb, ltb, List, [], ◌∷◌, length, refl, sym, ap, ◌∙◌}
use Rattle.std.proofs.Common.{subst, inl, inr, arith}
use Rattle.std.specs.List.{AllByRecursion, filter, range_with_len}
use Rattle.std.proofs.lemmas.Bool.{cases_Bool, eqb-true, eqb-false, ne_eqb, lt-ltb, le-ltb, cases_lt, true≢false}
use Rattle.list_facts.specs.Lists.{IsRising}
use Rattle.list_facts.proofs.AllLemmas.{AllByRecursion-weaker, AllByRecursion-filter}
use Rattle.held_nodes.specs.inside.Lines.{contains, with_line, without_line}

pub passed_each : (p : ℕ → Bool) (xs : List ℕ) → AllByRecursion (λ x. p x ≡ true) (filter p xs)
passed_each p [] = tt
passed_each p (x ∷ xs) = elim (cases_Bool (p x)) [ inl e ↦ rw e (e, passed_each p xs) | inr e ↦ rw e (passed_each p xs) ]

pub filter_none : (p : ℕ → Bool) (xs : List ℕ) → ((x : ℕ) → p x ≡ false) → filter p xs ≡ []
filter_none p [] f = refl
filter_none p (x ∷ xs) f = rw (f x) (filter_none p xs f)

-- ---- the lines below a limit

pub contains-range : (a n x : ℕ) → a ≤ x → x < a + n → contains (range_with_len a n) x ≡ true
contains-range a zero x l h = absurd (omega arith)
contains-range a (suc n) x l h =
    elim (cases_Bool (eqb a x)) [
      | inl e ↦ rw e refl
      | inr e ↦ let ne : a ≢ x = eqb-false a x e in rw e (contains-range (a + 1) n x (omega arith) (omega arith))
    ]

-- ---- membership

pub contains-filter_failed : (p : ℕ → Bool) (xs : List ℕ) (x : ℕ) → p x ≡ false → contains (filter p xs) x ≡ false
contains-filter_failed p [] x f = refl
contains-filter_failed p (y ∷ ys) x f =
    elim (cases_Bool (p y)) [
      | inl t ↦ let other : y ≢ x = λ e. true≢false (sym t ∙ ap p e ∙ f) in rw (t, ne_eqb y x other) (contains-filter_failed p ys x f)
      | inr g ↦ rw g (contains-filter_failed p ys x f)
    ]

pub contains-filter_passed : (p : ℕ → Bool) (xs : List ℕ) (x : ℕ) → p x ≡ true → contains xs x ≡ true → contains (filter p xs) x ≡ true
contains-filter_passed p [] x t h = h
contains-filter_passed p (y ∷ ys) x t h =
    elim (cases_Bool (eqb y x)) [
      | inl e ↦ rw (ap p (eqb-true y x e) ∙ t, e) refl
      | inr n ↦ let below : contains (filter p ys) x ≡ true = contains-filter_passed p ys x t (rw n at h) in
          elim (cases_Bool (p y)) [ inl u ↦ rw (u, n) below | inr g ↦ rw g below ]
    ]

pub contains_above : (x : ℕ) (xs : List ℕ) → AllByRecursion (λ y. x < y) xs → contains xs x ≡ false
contains_above x [] h = refl
contains_above x (y ∷ ys) h = let other : y ≢ x = λ e. absurd (omega (arith, h.0)) in rw (ne_eqb y x other) (contains_above x ys h.1)

-- ---- how many pass

pub length-filter_all : (p : ℕ → Bool) (xs : List ℕ) → AllByRecursion (λ x. p x ≡ true) xs → length (filter p xs) ≡ length xs
length-filter_all p [] h = refl
length-filter_all p (x ∷ xs) h = rw h.0 (omega (arith, length-filter_all p xs h.1))

length-filter-le : (p : ℕ → Bool) (xs : List ℕ) → length (filter p xs) ≤ length xs
length-filter-le p [] = omega arith
length-filter-le p (x ∷ xs) = elim (cases_Bool (p x)) [
  | inl e ↦ rw e (omega (arith, length-filter-le p xs))
  | inr e ↦ rw e
      (omega (arith, length-filter-le p xs))
]

pub length-filter-lt : (p : ℕ → Bool) (xs : List ℕ) (x : ℕ) → contains xs x ≡ true → p x ≡ false → length (filter p xs) < length xs
length-filter-lt p [] x h f = absurd (true≢false (sym h))
length-filter-lt p (y ∷ ys) x h f =
    elim (cases_Bool (eqb y x)) [
      | inl e ↦ rw (ap p (eqb-true y x e) ∙ f) (omega (arith, length-filter-le p ys))
      | inr n ↦ let below : length (filter p ys) < length ys = length-filter-lt p ys x (rw n at h) f in
          elim (cases_Bool (p y)) [ inl u ↦ rw u (omega arith) | inr g ↦ rw g (omega arith) ]
    ]

-- ---- one line more, one line less

filter_same : (p q : ℕ → Bool) (xs : List ℕ) → AllByRecursion (λ y. q y ≡ p y) xs → filter q xs ≡ filter p xs
filter_same p q [] h = refl
filter_same p q (x ∷ xs) h = rw (h.0, filter_same p q xs h.1) refl

with_line_first : (xs : List ℕ) (x : ℕ) → AllByRecursion (λ y. x < y) xs → with_line xs x ≡ x ∷ xs
with_line_first [] x h = refl
with_line_first (y ∷ ys) x h = rw (lt-ltb x y h.0) refl

-- a test that passes one more of rising lines
pub filter_with : (p q : ℕ → Bool) (xs : List ℕ) (x : ℕ) → IsRising xs → contains xs x ≡ true → p x ≡ false → q x ≡ true → ((y : ℕ) → y ≢ x → q y ≡ p y)
    → filter q xs ≡ with_line (filter p xs) x
filter_with p q [] x up h f t same = absurd (true≢false (sym h))
filter_with p q (y ∷ ys) x up h f t same =
    elim (cases_Bool (eqb y x)) [
      | inl e ↦
          let here : y ≡ x = eqb-true y x e in
          let above : AllByRecursion (λ z. x < z) ys = subst (λ n. AllByRecursion (λ z. n < z) ys) here up.0 in
          let rest : filter q ys ≡ filter p ys = filter_same p q ys
          (AllByRecursion-weaker (λ z. x < z) (λ z. q z ≡ p z) (λ z l. same z (λ i. absurd (omega arith))) ys above) in
          rw (ap p here ∙ f, ap q here ∙ t, rest, with_line_first (filter p ys) x (AllByRecursion-filter (λ z. x < z) p ys above), here) refl
      | inr n ↦
          let other : y ≢ x = eqb-false y x n in
          let inside : contains ys x ≡ true = rw n at h in
          let below : y < x = elim (cases_lt y x) [
            | inl l ↦ l
            | inr g ↦ absurd
                (true≢false (sym inside ∙ contains_above x ys (AllByRecursion-weaker (λ z. y < z) (λ z. x < z) (λ z l. omega arith) ys up.0)))
          ] in
          let rest = filter_with p q ys x up.1 inside f t same in
          elim (cases_Bool (p y)) [
            | inl u ↦ rw (u, same y other ∙ u, le-ltb x y (omega arith)) (ap (λ zs. y ∷ zs) rest)
            | inr g ↦ rw (g, same y other ∙ g) rest
          ]
    ]

-- a test that passes all but one of those
pub filter_without : (p q : ℕ → Bool) (xs : List ℕ) (x : ℕ) → ((y : ℕ) → q y ≡ (p y && not (eqb y x))) → filter q xs ≡ without_line (filter p xs) x
filter_without p q [] x same = refl
filter_without p q (y ∷ ys) x same =
    elim (cases_Bool (p y)) [
      | inl u ↦ let here : q y ≡ not (eqb y x) = same y ∙ rw u refl in rw (u, here, filter_without p q ys x same) refl
      | inr g ↦ let here : q y ≡ false = same y ∙ rw g refl in rw (g, here) (filter_without p q ys x same)
    ]

pub length-with_line : (xs : List ℕ) (x : ℕ) → length (with_line xs x) ≡ suc (length xs)
length-with_line [] x = refl
length-with_line (y ∷ ys) x =
    elim (cases_Bool (ltb x y)) [
      | inl e ↦ rw e refl
      | inr e ↦ rw e (ap suc (length-with_line ys x))
    ]

-- ---- what is out then

or_swap : (a b c : Bool) → (a || (b || c)) ≡ (b || (a || c))
or_swap true true c = refl
or_swap true false c = refl
or_swap false b c = refl

or_and : (a c : Bool) → (c && not a) ≡ ((a || c) && not a)
or_and true true = refl
or_and true false = refl
or_and false c = refl

kept_apart : (z x y : ℕ) (c : Bool) → z ≢ x → (eqb z y || (c && not (eqb x y))) ≡ ((eqb z y || c) && not (eqb x y))
kept_apart z x y c ne =
    elim (cases_Bool (eqb z y)) [
      | inl e ↦ rw (e, ne_eqb x y (λ i. ne (eqb-true z y e ∙ sym i))) refl
      | inr n ↦ rw n refl
    ]

pub contains-with_line : (xs : List ℕ) (x y : ℕ) → contains (with_line xs x) y ≡ (eqb x y || contains xs y)
contains-with_line [] x y = refl
contains-with_line (z ∷ zs) x y =
    elim (cases_Bool (ltb x z)) [
      | inl e ↦ rw e refl
      | inr e ↦ rw (e, contains-with_line zs x y) (or_swap (eqb z y) (eqb x y) (contains zs y))
    ]

pub contains-without_line : (xs : List ℕ) (x y : ℕ) → contains (without_line xs x) y ≡ (contains xs y && not (eqb x y))
contains-without_line [] x y = refl
contains-without_line (z ∷ zs) x y =
    elim (cases_Bool (eqb z x)) [
      | inl e ↦ rw (e, contains-without_line zs x y, eqb-true z x e) (or_and (eqb x y) (contains zs y))
      | inr n ↦ rw (n, contains-without_line zs x y) (kept_apart z x y (contains zs y) (eqb-false z x n))
    ]
